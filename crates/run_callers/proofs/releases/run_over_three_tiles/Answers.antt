use Rattle.scop_syntax.proofs.Common.{ap, get_or}
use Rattle.run_callers.proofs.releases.run_over_three_tiles.Goals as goal

pub returns-clause-short : goal.returns-clause-short
returns-clause-short c = c.two_workers_release.ensures.short

pub returns-clause-end : goal.returns-clause-end
returns-clause-end c = ap (λ s. get_or s.cells 2 0) c.two_workers_release.ensures.end
