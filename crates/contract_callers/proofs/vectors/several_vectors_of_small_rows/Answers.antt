use Rattle.scop_syntax.proofs.Common.{arith}
use Rattle.contract_callers.proofs.vectors.several_vectors_of_small_rows.Goals as goal

pub returns : goal.returns
returns c = λ n rows few. c.several_kernel_vectors_are_small.ensures 1 n rows few (omega arith)
