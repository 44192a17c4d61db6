use Rattle.scop_syntax.proofs.Common.{subst}
use Rattle.plan_check.specs.Taking.{Takes}
use Rattle.plan_check.proofs.Progresses.{next_as}
use Rattle.plan_check.proofs.checker.Checker.begin_goal.Goals as goal

pub opened-requires : goal.opened-requires
opened-requires c =
    let taken = subst (Takes c.self.inside.goals) c.in-Ok-Some.field-0-is c.in-Ok-Some.ensures in
    next_as _ c.args.self _ _ _ c.self.view_is c.self.invariant c.requires taken.0 taken.1
