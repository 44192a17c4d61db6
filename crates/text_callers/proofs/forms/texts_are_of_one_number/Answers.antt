use Rattle.scop_syntax.proofs.Common.{[]}
use Rattle.text_callers.proofs.forms.texts_are_of_one_number.Goals as goal

pub returns : goal.returns
returns c = λ f g r s. c.texts_are_of_one_form.ensures [] f g r s tt
