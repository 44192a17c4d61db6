use Rattle.scop_syntax.proofs.Kernels.{kernel_stands}
use Rattle.scop_syntax.proofs.walk_laws.instances_are_those_of_statements.Goals as goal

pub returns-clause-stands : goal.returns-clause-stands
returns-clause-stands c = kernel_stands
