use Rattle.scop_syntax.proofs.Common.{[], ap, length, sym}
use Rattle.planner_callers.proofs.runs.conflicts_of_kernels_without_parameters_are_in_order.Goals as goal

pub returns : goal.returns
returns c = λ program marked deps blocks i j conflict none free sized holds schedule.
    c.schedules_order_conflicts.ensures program marked deps blocks [] i j conflict free (sym (ap length none)) sized
    holds schedule
