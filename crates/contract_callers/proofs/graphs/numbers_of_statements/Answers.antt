use Rattle.scop_syntax.proofs.Common.{IfOk-weaker}
use Rattle.contract_callers.proofs.graphs.numbers_of_statements.Goals as goal

pub returns : goal.returns
returns c = IfOk-weaker c.components.result _ _ (λ numbers are. are.size) c.components.ensures
