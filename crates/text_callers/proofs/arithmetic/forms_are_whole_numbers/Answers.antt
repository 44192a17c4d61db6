use Rattle.scop_syntax.proofs.Common.{refl, []}
use Rattle.text_callers.proofs.arithmetic.forms_are_whole_numbers.Goals as goal

pub returns-clause-value : goal.returns-clause-value
returns-clause-value c = λ f. c.forms_are_whole_numbers.ensures.value 0 f [] refl

pub returns-clause-constants : goal.returns-clause-constants
returns-clause-constants c = λ f. c.forms_are_whole_numbers.ensures.constants 0 f [] refl
