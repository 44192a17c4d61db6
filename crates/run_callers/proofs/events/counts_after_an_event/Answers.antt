use Rattle.scop_syntax.proofs.Common.{arith}
use Rattle.tile_events.specs.Example.{first, two}
use Rattle.run_callers.proofs.events.counts_after_an_event.Goals as goal

pub returns-clause-workers : goal.returns-clause-workers
returns-clause-workers c = λ e. c.events_keep_count.ensures.workers two first 1 e

pub returns-clause-claims : goal.returns-clause-claims
returns-clause-claims c = λ e. c.events_keep_count.ensures.claims two first 0 e (omega arith)
