use Rattle.tile_events.specs.Example.{first, two}
use Rattle.run_callers.proofs.SmallPlans.{single_good, two_dealt, two_opening}
use Rattle.run_callers.proofs.events.states_after_events_of_two_workers.Goals as goal

pub returns : goal.returns
returns c = λ es.
    let laws = c.all_interleavings_agree.ensures in
    laws.replay two first es (single_good two) two_dealt (laws.start two first two_opening)
