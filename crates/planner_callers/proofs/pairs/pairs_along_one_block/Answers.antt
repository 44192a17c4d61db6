use Rattle.scop_syntax.proofs.Common.{[], ◌∷◌}
use Rattle.planner_callers.proofs.pairs.pairs_along_one_block.Goals as goal

pub returns : goal.returns
returns c = λ block x z y first second. c.kept_pairs_chain.ensures (block ∷ []) x z y first second
