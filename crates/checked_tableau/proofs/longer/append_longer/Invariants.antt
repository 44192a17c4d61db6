use Rattle.whole_numbers.proofs.Common.{◌≡◌, ◌+◌, ◌*◌, ◌-◌, ◌++◌, List, length, map}
use Rattle.tableau_rows.specs.Rows.{Row}
use Rattle.tableau_rows.specs.Moves.{rows_in}
use Rattle.lexmin_runs.specs.Nodes.{longer_row}
use Rattle.checked_tableau.specs.Lines.{Holds}
use Rattle.checked_tableau.proofs.longer.append_longer.Given as goal

abbrev pub invariant-loop : goal.invariant-loop
invariant-loop l =
    (length l.rest ≡ (l.count - l.counter) * l.stride)
    × (done : List Row) × Holds (l.stride + 1) l.counter l.cells.items (map longer_row done)
    × (done ++ rows_in l.stride (l.count - l.counter) l.rest ≡ rows_in l.stride l.count l.lines)
