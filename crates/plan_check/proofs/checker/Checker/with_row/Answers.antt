use Rattle.plan_check.proofs.Progresses.{gained_as}
use Rattle.plan_check.proofs.checker.Checker.with_row.Goals as goal

pub invariant_of-result : goal.invariant_of-result
invariant_of-result c =
    gained_as _ c.args.self c.args.row c.push.new.list.items c.contradicts-ended.result c.self.view_is c.self.invariant
    c.requires c.in-Ok.ensures.pushed c.contradicts-ended.ensures
