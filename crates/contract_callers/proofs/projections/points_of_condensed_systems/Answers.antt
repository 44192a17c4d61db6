use Rattle.scop_syntax.proofs.Common.{[], ◌∷◌, pos, arith, ints}
use Rattle.contract_callers.proofs.projections.points_of_condensed_systems.Goals as goal

pub returns-clause-points : goal.returns-clause-points
returns-clause-points c = λ s x. (c.condensed_systems_have_the_same_points.ensures.points s (x ∷ [])).1

pub returns-clause-fractions : goal.returns-clause-fractions
returns-clause-fractions c = λ s x.
    (c.condensed_systems_have_the_same_points.ensures.fractions s (pos 2) (x ∷ []) (omega (arith, ints))).0
