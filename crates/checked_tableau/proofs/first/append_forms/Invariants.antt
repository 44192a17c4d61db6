use Rattle.whole_numbers.proofs.Common.{ℕ, ◌+◌, List, ◌++◌, take}
use Rattle.tableau_rows.specs.Rows.{Row}
use Rattle.tableau_rows.specs.Problem.{given_rows}
use Rattle.checked_tableau.specs.Lines.{Holds}
use Rattle.checked_tableau.proofs.first.append_forms.Given as goal

abbrev pub invariant-loop-form : goal.invariant-loop-form
invariant-loop-form l =
    (count : ℕ) (rows : List Row) → Holds l.stride count l.fn.cells.items rows
    → Holds l.stride (count + l.form-index) l.cells.items (rows ++ given_rows l.unknowns (take l.form-index l.forms))
