use Rattle.scop_syntax.proofs.Common.{[], ◌∷◌}
use Rattle.planner_callers.proofs.runs.values_of_one_block.Goals as goal

pub returns : goal.returns
returns c = λ block x y along. c.values_are_in_order.ensures (block ∷ []) x y along
