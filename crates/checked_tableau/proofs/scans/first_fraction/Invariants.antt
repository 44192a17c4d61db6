use Rattle.whole_numbers.proofs.Common.{◌≡◌, ◌*◌, ◌-◌, length}
use Rattle.tableau_rows.specs.Moves.{rows_in, HeadsPositive}
use Rattle.tableau_rows.specs.Run.{first_row, has_fraction}
use Rattle.checked_tableau.proofs.scans.first_fraction.Given as goal

abbrev pub invariant-loop-at : goal.invariant-loop-at
invariant-loop-at l =
    (length l.rest ≡ (l.count - l.at) * l.stride)
    × HeadsPositive l.stride (l.count - l.at) l.rest
    × (first_row (has_fraction l.unknowns) l.at (rows_in l.stride (l.count - l.at) l.rest)
    ≡ first_row (has_fraction l.unknowns) 0 (rows_in l.stride l.count l.fn.cells))
