use Rattle.scop_syntax.proofs.Common.{◌≡◌, ◌+◌, ◌-◌}
use Rattle.plan_check.specs.Goals.{bounded, upper_rows}
use Rattle.plan_check.specs.steps.Walks.{rows_behind}
use Rattle.plan_check.proofs.row_goals.bounded.Given as goal

abbrev pub invariant-loop-step : goal.invariant-loop-step
invariant-loop-step l =
    rows_behind l.whole (upper_rows (l.dep.system.dimensions + l.parameters)
    (l.dep.system.dimensions + l.step) (l.parameters - l.step))
    ≡ bounded l.parameters l.dep
