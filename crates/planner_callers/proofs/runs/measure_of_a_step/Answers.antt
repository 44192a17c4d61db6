use Rattle.scop_syntax.proofs.Common.{[], ◌∷◌}
use Rattle.planner_callers.proofs.runs.measure_of_a_step.Goals as goal

pub returns : goal.returns
returns c = λ m loops s t blocks runs. c.runs_are_short.ensures m loops s (t ∷ []) blocks runs
