use Rattle.plan_check.proofs.Walks.{found_later}
use Rattle.plan_check.proofs.walk.later_row.Goals as goal

pub returns : goal.returns
returns c =
    found_later c.args.parameters c.args.at c.in_ok-next.next c.args.dep.now c.in_ok-goal.goal c.in_ok-dep.dep
    c.args.forms.now c.in_ok-goal.ensures c.in_ok-dep.ensures c.in_ok-next.ensures
