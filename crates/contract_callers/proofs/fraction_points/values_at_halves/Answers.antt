use Rattle.scop_syntax.proofs.Common.{[], ◌∷◌, pos, negsuc, form_of}
use Rattle.contract_callers.proofs.fraction_points.values_at_halves.Goals as goal

pub returns-clause-whole : goal.returns-clause-whole
returns-clause-whole c = λ x y.
    c.values_over_a_denominator.ensures.whole (form_of (pos 3 ∷ negsuc 0 ∷ []) (negsuc 1)) (x ∷ y ∷ [])

pub returns-clause-scaled : goal.returns-clause-scaled
returns-clause-scaled c =
    c.values_over_a_denominator.ensures.scaled (form_of (pos 3 ∷ negsuc 0 ∷ []) (negsuc 1)) (pos 3) (pos 2)
    (pos 5 ∷ pos 1 ∷ [])
