use Rattle.scop_syntax.proofs.Values.{stored_below}
use Rattle.scop_syntax.proofs.value_laws.values_stay_below_2_64.Goals as goal

pub returns : goal.returns
returns c = stored_below
