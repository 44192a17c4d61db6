use Rattle.scop_syntax.proofs.Common.{subst, IfOk}
use Rattle.scop_roles.specs.steps.Judgement.{IsJudgement}
use Rattle.scop_roles.proofs.nodes.of_cast.Goals as goal

pub returns-in-Ok : goal.returns-in-Ok
returns-in-Ok c n f h = c.under_cast-whole.ensures n f (subst (λ r. IfOk r (IsJudgement n f)) c.in-Ok.is h)
