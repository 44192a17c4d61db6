use Rattle.scop_syntax.proofs.Common.{refl, arith}
use Rattle.tile_events.specs.Example.{both_to_last, three}
use Rattle.run_callers.proofs.SmallPlans.{single_good}
use Rattle.run_callers.proofs.ThreeTiles.{three_pairs}
use Rattle.run_callers.proofs.releases.covers_of_three_tiles.Goals as goal

pub returns-clause-closed : goal.returns-clause-closed
returns-clause-closed c = λ p within touch.
    c.covers_join_what_touches.ensures.closed p 0 2 (omega arith) within touch

pub returns-clause-covered : goal.returns-clause-covered
returns-clause-covered c =
    c.covers_join_what_touches.ensures.covered three both_to_last (λ cell. refl) refl (single_good three) three_pairs

pub returns-clause-rise : goal.returns-clause-rise
returns-clause-rise c = λ p stores by_waves good pairs leads.
    c.covers_join_what_touches.ensures.rise p both_to_last stores by_waves good pairs 0 2 leads
