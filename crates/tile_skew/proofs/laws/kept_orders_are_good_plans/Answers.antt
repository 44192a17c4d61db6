use Rattle.scop_syntax.proofs.Common.{refl, inr}
use Rattle.tile_skew.proofs.laws.kept_orders_are_good_plans.Goals as goal

pub returns : goal.returns
returns c program params i j p = inr (refl, p.order)
