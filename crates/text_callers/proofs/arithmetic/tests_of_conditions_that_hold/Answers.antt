use Rattle.scop_syntax.proofs.Common.{refl, []}
use Rattle.text_callers.proofs.arithmetic.tests_of_conditions_that_hold.Goals as goal

pub returns : goal.returns
returns c = λ f none holds. (c.tests_hold_where_conditions_do.ensures 0 f [] refl none).1 holds
