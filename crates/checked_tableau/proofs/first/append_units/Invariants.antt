use Rattle.whole_numbers.proofs.Common.{◌≡◌, ℕ, suc, length}
use Rattle.tableau_rows.specs.Problem.{unit_rows}
use Rattle.checked_tableau.specs.Lines.{Holds}
use Rattle.checked_tableau.proofs.first.append_units.Given as goal

abbrev pub invariant-loop-column : goal.invariant-loop-column
invariant-loop-column l =
    (length l.line ≡ length l.fn.line)
    × ((m : ℕ) → length l.line ≡ suc m → Holds (suc m) l.column l.cells.items (unit_rows m 0 l.column))
