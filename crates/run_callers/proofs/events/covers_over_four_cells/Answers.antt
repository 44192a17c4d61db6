use Rattle.scop_syntax.proofs.Common.{[], ◌∷◌}
use Rattle.run_callers.proofs.events.covers_over_four_cells.Goals as goal

pub returns : goal.returns
returns c = λ contents visits p walk inside many.
    c.covers_are_those_of_the_walk.ensures ((4 ∷ []) ∷ []) contents visits p walk inside many 0 1
