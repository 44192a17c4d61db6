use Rattle.scop_syntax.proofs.Common.{[], ap, arith, length, sym}
use Rattle.planner_callers.proofs.tiles.plans_of_tiles.Goals as goal

pub returns : goal.returns
returns c = λ program marked deps blocks none sized holds schedule.
    c.tiled_schedules_are_good_plans.ensures program marked deps blocks [] 1 (sym (ap length none)) (omega arith)
    sized holds schedule
