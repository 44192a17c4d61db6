-- The plan so far, with the items to come, is that of all items.
use Rattle.scop_syntax.proofs.Common.{◌≡◌, drop}
use Rattle.plan_check.specs.PlanView.{plan_of}
use Rattle.plan_certificate.specs.steps.ItemPlans.{no_items, with_items}
use Rattle.plan_certificate.proofs.schedule_items.plan_items.Given as goal

abbrev pub invariant-loop-at : goal.invariant-loop-at
invariant-loop-at l =
    with_items l.schedule.bands l.at (drop l.at l.schedule.items) (drop l.at l.schedule.parallel) (plan_of l.plan)
    ≡ with_items l.schedule.bands 0 l.schedule.items l.schedule.parallel no_items
