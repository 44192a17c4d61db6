use Rattle.scop_syntax.proofs.Common.{ap, IfOk-weaker}
use Rattle.planner_callers.proofs.posed_sets.posed_without_dependences.Goals as goal

pub returns-clause-exact : goal.returns-clause-exact
returns-clause-exact c = IfOk-weaker c.posed.result _ _ (λ s is. ap (λ own. own.equalities) is) c.posed.ensures.exact
