use Rattle.whole_numbers.proofs.Values.{form_same}
use Rattle.whole_numbers.proofs.affine_laws.forms_with_the_same_values_are_one.Goals as goal

pub returns : goal.returns
returns c = form_same
