use Rattle.whole_numbers.proofs.Common.{◌≡◌, ◌-◌}
use Rattle.tableau_rows.specs.Moves.{line_row}
use Rattle.tableau_rows.specs.Run.{some_positive}
use Rattle.checked_tableau.proofs.scans.has_positive.Given as goal

abbrev pub invariant-loop-column : goal.invariant-loop-column
invariant-loop-column l =
    some_positive (line_row l.row) l.column (l.unknowns - l.column) ≡ some_positive (line_row l.row) 0 l.unknowns
