use Rattle.scop_syntax.proofs.Common.{[], ◌∷◌, refl}
use Rattle.contract_callers.proofs.projections.points_of_one_dimension.Goals as goal

pub returns-clause-one : goal.returns-clause-one
returns-clause-one c = λ s x rest. c.eliminations_keep_the_points.ensures.one 0 s [] x rest refl

pub returns-clause-front : goal.returns-clause-front
returns-clause-front c = λ s x params one.
    c.eliminations_keep_the_points.ensures.front 1 s [] (x ∷ []) params refl one

pub returns-clause-last : goal.returns-clause-last
returns-clause-last c = λ s x sized one.
    c.eliminations_keep_the_points.ensures.last s [] x [] sized one (λ k d less. elim less [ ])
