use Rattle.scop_syntax.proofs.Common.{◌≡◌, drop}
use Rattle.plan_check.specs.Goals.{later_goals}
use Rattle.plan_check.specs.PlanView.{plan_of}
use Rattle.plan_check.proofs.walk.later_goal.Given as goal

abbrev pub invariant-loop-at : goal.invariant-loop-at
invariant-loop-at l =
    later_goals l.parameters l.dep (drop l.at (plan_of l.plan).behind)
    ≡ later_goals l.parameters l.dep (drop l.from (plan_of l.plan).behind)
