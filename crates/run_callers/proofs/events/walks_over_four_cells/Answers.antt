use Rattle.scop_syntax.proofs.Common.{[], ◌∷◌, arith}
use Rattle.run_callers.proofs.events.walks_over_four_cells.Goals as goal

pub returns-clause-reads : goal.returns-clause-reads
returns-clause-reads c = λ contents marked visits p v walk marks shaped inside at.
    c.plans_execute_the_walk.ensures.reads ((4 ∷ []) ∷ []) contents marked visits p walk marks shaped inside 0 v at
    (omega arith)

pub returns-clause-end : goal.returns-clause-end
returns-clause-end c = λ contents marked visits p walk marks shaped inside cell is.
    c.plans_execute_the_walk.ensures.end ((4 ∷ []) ∷ []) contents marked visits p walk marks shaped inside cell is

pub returns-clause-row : goal.returns-clause-row
returns-clause-row c = λ contents cell shaped is.
    c.plans_execute_the_walk.ensures.row ((4 ∷ []) ∷ []) contents cell shaped is

pub returns-clause-conflicts : goal.returns-clause-conflicts
returns-clause-conflicts c = λ contents marked visits p walk marks inside v w at behind touch.
    c.plans_execute_the_walk.ensures.conflicts ((4 ∷ []) ∷ []) contents marked visits p walk marks inside 0 1 v w at
    behind touch
