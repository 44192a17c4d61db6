use Rattle.scop_syntax.proofs.Common.{subst, IfOk}
use Rattle.scop_roles.specs.steps.Judgement.{IsJudgement}
use Rattle.scop_roles.proofs.nodes.of_index.Goals as goal

pub returns-in-Ok : goal.returns-in-Ok
returns-in-Ok c n p i h g =
    c.indexed-whole.ensures n p i (subst (λ r. IfOk r (IsJudgement n p)) c.in-Ok.ensures.first h)
    (subst (λ r. IfOk r (IsJudgement n i)) c.in-Ok.ensures.second g)
