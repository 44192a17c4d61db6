use Rattle.scop_syntax.proofs.Common.{◌≡◌, drop}
use Rattle.plan_check.specs.Goals.{restricted}
use Rattle.plan_check.specs.PlanView.{plan_of}
use Rattle.plan_check.specs.GoalList.{CanGo}
use Rattle.plan_check.proofs.walk.in_band.Given as goal

abbrev pub invariant-loop-at : goal.invariant-loop-at
invariant-loop-at l =
    (restricted l.parameters l.dep (drop l.at (plan_of l.plan).band)
    ≡ restricted l.parameters l.fn.dep (plan_of l.plan).band)
    × CanGo l.parameters (plan_of l.plan) l.dep
