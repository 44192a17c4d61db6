use Rattle.scop_syntax.proofs.Bounds.{kernel_fits}
use Rattle.scop_syntax.proofs.limit_laws.numbers_of_runs_fit.Goals as goal

pub returns : goal.returns
returns c = kernel_fits
