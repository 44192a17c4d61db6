use Rattle.scop_syntax.proofs.Common.{IfOk-weaker}
use Rattle.contract_callers.proofs.vectors.vectors_of_columns.Goals as goal

pub returns : goal.returns
returns c = IfOk-weaker c.kernel_vectors.result _ _
    (λ vectors are. (are.columns, are.each)) c.kernel_vectors.ensures.are
