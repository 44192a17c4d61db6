use Rattle.scop_syntax.proofs.Common.{subst, IfOk}
use Rattle.scop_roles.specs.steps.Judgement.{HasForm, IsJudgement}
use Rattle.scop_roles.proofs.FormulaValues.{if_ok}
use Rattle.scop_roles.proofs.nodes.of_unary.Goals as goal

pub under_sign-whole-requires : goal.under_sign-whole-requires
under_sign-whole-requires c = subst (λ r. IfOk r (λ j. HasForm c.args.entries j.form)) c.in-Ok.is c.requires

pub returns-in-Ok : goal.returns-in-Ok
returns-in-Ok c f h =
    if_ok c.under_sign-whole.result
    (λ j judged. judged f (subst (λ r. IfOk r (IsJudgement c.args.entries f)) c.in-Ok.is h))
    c.under_sign-whole.ensures
