use Rattle.whole_numbers.proofs.Common.{◌≡◌, ◌*◌, ◌-◌, length}
use Rattle.tableau_rows.specs.Moves.{rows_in}
use Rattle.tableau_rows.specs.Run.{first_row, has_below}
use Rattle.checked_tableau.proofs.scans.first_below.Given as goal

abbrev pub invariant-loop-at : goal.invariant-loop-at
invariant-loop-at l =
    (length l.rest ≡ (l.count - l.at) * l.stride)
    × (first_row (has_below l.unknowns) l.at (rows_in l.stride (l.count - l.at) l.rest)
    ≡ first_row (has_below l.unknowns) 0 (rows_in l.stride l.count l.fn.cells))
