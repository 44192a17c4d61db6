use Rattle.scop_syntax.proofs.Common.{ap, get_or}
use Rattle.run_callers.proofs.releases.run_of_three_adds.Goals as goal

pub returns-clause-store : goal.returns-clause-store
returns-clause-store c = c.two_workers_add.ensures.store

pub returns-clause-release : goal.returns-clause-release
returns-clause-release c = c.two_workers_add.ensures.release

pub returns-clause-add : goal.returns-clause-add
returns-clause-add c = c.two_workers_add.ensures.add

pub returns-clause-end : goal.returns-clause-end
returns-clause-end c = ap (λ s. get_or s.cells 0 0) c.two_workers_add.ensures.end
