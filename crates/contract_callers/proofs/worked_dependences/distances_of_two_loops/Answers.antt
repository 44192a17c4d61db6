use Rattle.scop_syntax.proofs.Common.{[], ◌∷◌, refl}
use Rattle.farkas.specs.Unknowns.{layout_of}
use Rattle.farkas.specs.declared.claim.Claim.TheVariants.{Legality}
use Rattle.contract_callers.specs.Worked.{end}
use Rattle.contract_callers.proofs.worked_dependences.distances_of_two_loops.Goals as goal

pub returns : goal.returns
unfolding layout_of
returns c = λ numbers i j q.
    c.claimed_forms_are_distances.ensures Legality (end 2) (end 1) 1 0 numbers (i ∷ []) (j ∷ []) (q ∷ []) [] refl refl
    refl
