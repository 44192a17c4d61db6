use Rattle.scop_syntax.proofs.Common.{on_ok_weaker}
use Rattle.contract_callers.proofs.nodes.pivoted.Goals as goal

pub returns-clause-again : goal.returns-clause-again
returns-clause-again c = λ wide stopped. (c.pivot.ensures.again wide stopped).0

pub returns-clause-solutions : goal.returns-clause-solutions
returns-clause-solutions c = λ going is.
    on_ok_weaker c.pivot.result (λ keeps. keeps.0.0) (c.pivot.ensures.solutions going is)
