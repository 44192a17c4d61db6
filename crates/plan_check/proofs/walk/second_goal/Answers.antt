use Rattle.plan_check.specs.PlanView.{row_of}
use Rattle.plan_check.proofs.Walks.{found_second}
use Rattle.plan_check.proofs.walk.second_goal.Goals as goal

pub returns : goal.returns
returns c = λ p can h marked.
    found_second c.args.parameters c.args.at c.in_ok-next.next c.args.dep c.in_ok-goal.goal (row_of c.args.row.now)
    c.deref.result.now c.deref.ensures.value c.in_ok-goal.ensures c.in_ok-next.ensures marked p can h
