use Rattle.scop_syntax.proofs.Common.{refl}
use Rattle.tile_events.specs.Core.{replay}
use Rattle.tile_events.specs.Example.{adding, adding_first, adding_run}
use Rattle.run_callers.proofs.SmallPlans.{adding_dealt, adding_opening, single_good}
use Rattle.run_callers.proofs.releases.states_of_three_adds.Goals as goal

pub returns-clause-sound : goal.returns-clause-sound
returns-clause-sound c = λ es.
    let laws = c.all_interleavings_agree.ensures in
    laws.replay adding adding_first es (single_good adding) adding_dealt (laws.start adding adding_first adding_opening)

pub returns-clause-done : goal.returns-clause-done
returns-clause-done c =
    (replay adding adding_first adding_run, returns-clause-sound c adding_run, refl, refl, refl)
