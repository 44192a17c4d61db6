use Rattle.whole_numbers.proofs.Values.{multiple_keeps_signs}
use Rattle.whole_numbers.proofs.affine_laws.positive_multiples_keep_equalities_and_rows.Goals as goal

pub returns : goal.returns
returns c = multiple_keeps_signs
