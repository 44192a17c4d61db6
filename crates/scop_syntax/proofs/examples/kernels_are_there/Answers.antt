use Rattle.scop_syntax.proofs.FallingLoop.{falling}
use Rattle.scop_syntax.proofs.examples.kernels_are_there.Goals as goal

pub returns : goal.returns
returns c = falling
