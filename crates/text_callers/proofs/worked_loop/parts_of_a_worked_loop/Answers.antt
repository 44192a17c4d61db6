use Rattle.scop_syntax.proofs.Common.{[], ◌∷◌, refl}
use Rattle.text_callers.specs.Worked.{below_seven, odd, odd_cell}
use Rattle.text_callers.proofs.worked_loop.parts_of_a_worked_loop.Goals as goal

pub returns-clause-value : goal.returns-clause-value
returns-clause-value c = λ x. c.forms_are_whole_numbers.ensures.value 1 odd (x ∷ []) refl refl

pub returns-clause-tests : goal.returns-clause-tests
returns-clause-tests c = λ x. c.tests_hold_where_conditions_do.ensures 1 below_seven (x ∷ []) refl refl

pub returns-clause-access : goal.returns-clause-access
returns-clause-access c = λ x. c.accesses_are_cells.ensures 1 odd_cell (x ∷ []) refl refl
