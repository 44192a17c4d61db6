use Rattle.scop_syntax.proofs.Common.{◌∷◌, ◌∙◌, ap, sym, refl, before_place}
use Rattle.contract_callers.proofs.walks.first_places_of_executions.Goals as goal

pub returns-clause-goes_on : goal.returns-clause-goes_on
returns-clause-goes_on c = λ extents contents v visits.
    c.executions_go_along_the_places.ensures.goes_on extents contents (v ∷ visits) 0 v refl

pub returns-clause-ends : goal.returns-clause-ends
returns-clause-ends c = λ extents contents visits one.
    ap (before_place extents contents visits) (sym one)
    ∙ c.executions_go_along_the_places.ensures.ends extents contents visits
