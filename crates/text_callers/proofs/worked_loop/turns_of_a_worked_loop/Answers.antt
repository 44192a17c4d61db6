use Rattle.scop_syntax.proofs.Common.{[], refl}
use Rattle.scop_units.specs.Scopes.{no_scope}
use Rattle.text_callers.specs.Worked.{head}
use Rattle.text_callers.proofs.worked_loop.turns_of_a_worked_loop.Goals as goal

pub returns-clause-first : goal.returns-clause-first
returns-clause-first c = c.loops_count_as_they_say.ensures.first no_scope head [] refl refl

pub returns-clause-next : goal.returns-clause-next
returns-clause-next c = λ x. c.loops_count_as_they_say.ensures.next no_scope head [] x refl refl

pub returns-clause-condition : goal.returns-clause-condition
returns-clause-condition c = λ x. c.loops_count_as_they_say.ensures.condition no_scope head [] x refl refl
