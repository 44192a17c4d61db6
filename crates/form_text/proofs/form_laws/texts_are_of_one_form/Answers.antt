use Rattle.form_text.proofs.Forms.{one_form}
use Rattle.form_text.proofs.form_laws.texts_are_of_one_form.Goals as goal

pub returns : goal.returns
returns c = one_form
