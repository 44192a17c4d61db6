use Rattle.plan_check.proofs.Progresses.{is_opened}
use Rattle.plan_check.proofs.checker.opened.Goals as goal

pub invariant_of-result : goal.invariant_of-result
invariant_of-result c =
    is_opened c.args.goals.all c.args.goals.left c.in-Some.begun c.in-Ok.variables c.args.goal.now
    c.in-Ok-goal_rows.rows.items c.requires c.in-Ok.ensures c.in-Ok-goal_rows.ensures.rows
    c.in-Ok-goal_rows.ensures.sized
