use Rattle.scop_syntax.proofs.Common.{IfOk-weaker}
use Rattle.contract_callers.proofs.nodes.cut.Goals as goal

pub returns-clause-again : goal.returns-clause-again
returns-clause-again c = λ wide stopped. (c.cut.ensures.again wide stopped).0

pub returns-clause-solutions : goal.returns-clause-solutions
returns-clause-solutions c = λ going is within.
    IfOk-weaker c.cut.result _ _ (λ move keeps. keeps.0) (c.cut.ensures.solutions going is within)
