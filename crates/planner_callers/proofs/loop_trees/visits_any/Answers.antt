use Rattle.scop_syntax.proofs.Common.{[], refl}
use Rattle.planner_callers.proofs.loop_trees.visits_any.Goals as goal

pub returns : goal.returns
returns c = c.walk.ensures [] (λ _. refl)
