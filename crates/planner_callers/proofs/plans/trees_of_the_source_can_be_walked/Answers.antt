use Rattle.scop_syntax.proofs.Common.{[]}
use Rattle.loop_tree.specs.Tiling.{kept}
use Rattle.planner_callers.proofs.plans.trees_of_the_source_can_be_walked.Goals as goal

pub returns : goal.returns
returns c = λ program marked ts are has. c.trees_of_plans_can_be_walked.ensures program [] marked kept ts are has
