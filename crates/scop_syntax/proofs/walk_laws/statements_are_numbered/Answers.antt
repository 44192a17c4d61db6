use Rattle.scop_syntax.proofs.Kernels.{kernel_placed}
use Rattle.scop_syntax.proofs.walk_laws.statements_are_numbered.Goals as goal

pub returns-clause-placed : goal.returns-clause-placed
returns-clause-placed c = kernel_placed
