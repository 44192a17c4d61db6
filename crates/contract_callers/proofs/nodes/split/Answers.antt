use Rattle.scop_syntax.proofs.Common.{IfOk-weaker}
use Rattle.contract_callers.proofs.nodes.split.Goals as goal

pub returns-clause-again : goal.returns-clause-again
returns-clause-again c = λ wide stopped. (c.split.ensures.again wide stopped).0

pub returns-clause-solutions : goal.returns-clause-solutions
returns-clause-solutions c = λ going is.
    IfOk-weaker c.split.result _ _ (λ move keeps. keeps.0) (c.split.ensures.solutions going is)
