use Rattle.scop_syntax.proofs.Common.{arith, take}
use Rattle.tile_events.specs.Example.{both_to_last, counted, counted_first, counted_run, three}
use Rattle.run_callers.proofs.ThreeTiles.{counted_opening, last_begun, opened, others_finished, three_covered}
use Rattle.run_callers.proofs.ThreeTiles.{three_dealt, three_edges}
use Rattle.run_callers.proofs.releases.states_over_three_tiles.Goals as goal

pub returns-clause-sound : goal.returns-clause-sound
returns-clause-sound c = λ es.
    let laws = c.all_interleavings_agree.ensures in
    let plans = c.pairs_make_plans.ensures in
    laws.replay counted counted_first es (plans.good three both_to_last three_dealt three_edges three_covered)
    (plans.dealt three both_to_last three_dealt three_edges) (laws.start counted counted_first counted_opening)

pub returns-clause-begun : goal.returns-clause-begun
returns-clause-begun c = (
  opened,
  returns-clause-sound c (take 15 counted_run),
  last_begun,
  others_finished 0 (omega arith),
  others_finished 1 (omega arith),
)
