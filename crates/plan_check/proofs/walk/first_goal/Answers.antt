use Rattle.plan_check.specs.PlanView.{row_of}
use Rattle.plan_check.proofs.Walks.{found_first}
use Rattle.plan_check.proofs.walk.first_goal.Goals as goal

pub returns : goal.returns
returns c =
    found_first c.args.parameters c.args.at c.args.dep c.in_ok-goal.goal (row_of c.args.row.now) c.in_ok-place.place
    c.deref.result.now c.deref.ensures.value c.in_ok-goal.ensures
    (λ p h. c.in_ok-place.ensures c.args.parameters p c.args.dep h)
