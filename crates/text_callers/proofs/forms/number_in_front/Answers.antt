use Rattle.scop_syntax.proofs.Common.{◌≡◌, subst}
use Rattle.form_text.specs.Reading.{behind_digits, number_in_front}
use Rattle.form_text.specs.View.{saturated}
use Rattle.text_callers.proofs.forms.number_in_front.Goals as goal

pub returns-clause-number : goal.returns-clause-number
returns-clause-number c = λ none.
    subst (λ t. c.read_number.result.0 ≡ saturated (number_in_front 0 t)) none c.read_number.ensures.number

pub returns-clause-behind : goal.returns-clause-behind
returns-clause-behind c = λ none.
    subst (λ t. c.read_number.result.1.now ≡ behind_digits t) none c.read_number.ensures.behind
