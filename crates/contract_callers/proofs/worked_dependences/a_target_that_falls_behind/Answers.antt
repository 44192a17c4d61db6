use Rattle.scop_syntax.proofs.Common.{[], ◌∷◌, pos, arith, ints}
use Rattle.farkas.specs.Unknowns.{layout_of}
use Rattle.contract_callers.proofs.Turns.{instance}
use Rattle.contract_callers.proofs.worked_dependences.a_target_that_falls_behind.Goals as goal

pub returns : goal.returns
unfolding layout_of
returns c = λ t taken keeps.
    let low = keeps (pos 0 ∷ pos 0 ∷ pos 1 ∷ pos 0 ∷ pos 2 ∷ pos 0 ∷ []) (pos 2 ∷ []) (pos 3 ∷ []) (pos 4 ∷ []) taken
    (instance 2 1 (pos 2)) in omega (arith, ints, low)
