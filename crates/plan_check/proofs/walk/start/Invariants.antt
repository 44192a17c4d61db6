use Rattle.scop_syntax.proofs.Common.{◌≡◌, ℕ, drop}
use Rattle.plan_check.specs.Goals.{band_goals, leading_goals}
use Rattle.plan_check.specs.PlanView.{plan_of}
use Rattle.plan_check.proofs.walk.start.Given as goal

abbrev pub invariant-loop-at : goal.invariant-loop-at
invariant-loop-at l =
    (m : ℕ)
    → leading_goals l.dep (drop l.at (plan_of l.plan).leading) (band_goals m l.dep (plan_of l.plan))
    ≡ leading_goals l.dep (plan_of l.plan).leading (band_goals m l.dep (plan_of l.plan))
