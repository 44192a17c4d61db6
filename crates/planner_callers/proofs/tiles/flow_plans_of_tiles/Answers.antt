use Rattle.scop_syntax.proofs.Common.{[], ap, arith, length, sym}
use Rattle.planner_callers.proofs.tiles.flow_plans_of_tiles.Goals as goal

pub returns : goal.returns
returns c = λ program deps blocks none sized holds schedule.
    c.tiled_flows_are_flow_plans.ensures program deps blocks [] 1 (sym (ap length none)) (omega arith) sized holds
    schedule
