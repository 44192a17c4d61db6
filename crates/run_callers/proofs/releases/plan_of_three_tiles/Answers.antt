use Rattle.scop_syntax.proofs.Common.{arith}
use Rattle.tile_events.specs.Example.{both_to_last, three}
use Rattle.run_callers.proofs.ThreeTiles.{three_covered, three_dealt, three_edges}
use Rattle.run_callers.proofs.releases.plan_of_three_tiles.Goals as goal

pub returns-clause-dealt : goal.returns-clause-dealt
returns-clause-dealt c = c.pairs_make_plans.ensures.dealt three both_to_last three_dealt three_edges

pub returns-clause-good : goal.returns-clause-good
returns-clause-good c = c.pairs_make_plans.ensures.good three both_to_last three_dealt three_edges three_covered

pub returns-clause-reads : goal.returns-clause-reads
returns-clause-reads c = c.pairs_make_plans.ensures.reads three both_to_last three_dealt three_edges 2 (omega arith)

pub returns-clause-end : goal.returns-clause-end
returns-clause-end c = c.pairs_make_plans.ensures.end three both_to_last three_dealt three_edges 2 (omega arith)

pub returns-clause-words : goal.returns-clause-words
returns-clause-words c = λ done.
    c.pairs_make_plans.ensures.words three both_to_last three_dealt three_edges done 2 (omega arith)
