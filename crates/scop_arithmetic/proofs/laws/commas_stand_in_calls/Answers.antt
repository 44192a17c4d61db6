use Rattle.scop_arithmetic.proofs.Commas.{no_comma}
use Rattle.scop_arithmetic.proofs.laws.commas_stand_in_calls.Goals as goal

pub returns : goal.returns
returns c look at t is = no_comma look at t is.brackets is.rank
