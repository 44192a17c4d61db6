use Rattle.scop_syntax.proofs.Common.{◌∙◌, sym, ap, subst}
use Rattle.plan_check.specs.Progress.{IsProgress, Progress}
use Rattle.plan_check.specs.Taking.{Takes}
use Rattle.plan_check.proofs.Progresses.{none_has}
use Rattle.plan_check.proofs.checker.Checker.end_of_goals.Goals as goal

pub returns-in-Ok-None-clause-points : goal.returns-in-Ok-None-clause-points
returns-in-Ok-None-clause-points c = λ e.
    let over = subst (Takes c.self.inside.goals) c.in-Ok-None.field-0-is c.in-Ok-None.ensures in
    none_has c.args.self (subst IsProgress c.self.view_is c.self.invariant) c.requires
    (sym (ap (λ (q : Progress). q.left) c.self.view_is) ∙ over)
