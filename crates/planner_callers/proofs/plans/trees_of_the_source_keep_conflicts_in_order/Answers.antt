use Rattle.scop_syntax.proofs.Common.{[]}
use Rattle.loop_tree.specs.Tiling.{kept}
use Rattle.planner_callers.proofs.plans.trees_of_the_source_keep_conflicts_in_order.Goals as goal

pub returns : goal.returns
returns c = λ program marked ts carry. c.trees_keep_conflicts_in_order.ensures program [] marked kept ts tt carry
