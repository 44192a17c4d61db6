use Rattle.scop_syntax.proofs.Bounds.{kernel_ranked}
use Rattle.scop_syntax.proofs.limit_laws.accesses_have_the_ranks_of_arrays.Goals as goal

pub returns : goal.returns
returns c = kernel_ranked
