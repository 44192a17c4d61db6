use Rattle.form_text.proofs.Forms.{form_back}
use Rattle.form_text.proofs.form_laws.forms_are_read_back.Goals as goal

pub returns : goal.returns
returns c = form_back
