use Rattle.scop_syntax.proofs.Common.{ap, ap₂, subst, ◌∙◌, IfOk}
use Rattle.scop_roles.specs.Faults.{first, first_of, told}
use Rattle.scop_roles.specs.steps.Judgement.{IsJudgement}
use Rattle.scop_roles.proofs.nodes.of_call.Goals as goal

pub returns-in-Ok : goal.returns-in-Ok
returns-in-Ok c n f h =
    let judged = subst (λ r. IfOk r (IsJudgement n f)) c.in-Ok.is h in
    c.called_with.ensures.call n c.args.meaning f
    (c.first_of-part.ensures
    ∙ ap₂ first_of (c.told.ensures ∙ ap (λ k. first (told c.args.at k)) c.called.ensures) judged.free)
