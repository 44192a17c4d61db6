use Rattle.scop_syntax.proofs.Common.{[]}
use Rattle.loop_tree.specs.Tiling.{tiled}
use Rattle.planner_callers.proofs.plans.waves_of_tiles_of_size_1_have_one_length.Goals as goal

pub returns : goal.returns
returns c = λ program marked statements ts are has x y.
    c.waves_have_one_length.ensures program [] marked (tiled 1 statements) ts are has x y
