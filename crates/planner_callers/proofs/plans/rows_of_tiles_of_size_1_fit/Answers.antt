use Rattle.scop_syntax.proofs.Common.{[]}
use Rattle.planner_callers.proofs.plans.rows_of_tiles_of_size_1_fit.Goals as goal

pub returns : goal.returns
returns c = λ program marked s run ts schedule are has x.
    c.rows_of_schedules_fit.ensures program [] marked 1 s run ts schedule are has x
