use Rattle.scop_syntax.proofs.Common.{ap, get_or}
use Rattle.run_callers.proofs.events.run_over_two_tiles.Goals as goal

pub returns : goal.returns
returns c = ap (λ s. get_or s.cells 1 0) c.two_workers_run.ensures
