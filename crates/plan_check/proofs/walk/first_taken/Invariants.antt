use Rattle.scop_syntax.proofs.Common.{◌≡◌, drop, flat_map}
use Rattle.plan_check.specs.Goals.{goals_of}
use Rattle.plan_check.specs.PlanView.{plan_of}
use Rattle.plan_check.proofs.walk.first_taken.Given as goal

abbrev pub invariant-loop-at : goal.invariant-loop-at
invariant-loop-at l =
    flat_map (goals_of l.parameters (plan_of l.plan)) (drop l.at l.deps)
    ≡ flat_map (goals_of l.parameters (plan_of l.plan)) (drop l.from l.deps)
