use Rattle.plan_check.proofs.PrunedDerivations.{needless_left_out}
use Rattle.plan_check.proofs.derivation_laws.needless_lines_may_be_left_out.Goals as goal

pub returns : goal.returns
returns c = needless_left_out
