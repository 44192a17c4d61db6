use Rattle.scop_syntax.proofs.Common.{[]}
use Rattle.planner_callers.proofs.tiles.plans_of_the_source.Goals as goal

pub returns : goal.returns
returns c = λ program. c.kept_orders_are_good_plans.ensures program []
