use Rattle.null_space.proofs.KernelCombinations.{spanned}
use Rattle.null_space.proofs.laws.kernel_vectors_span_what_is_orthogonal.Goals as goal

pub returns : goal.returns
returns c n rows ns v are size flat = spanned n rows ns v are size flat
