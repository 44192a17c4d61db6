use Rattle.scop_syntax.proofs.Common.{ap, subst, List, ℤ, Ok, Err, Bool, true, Result}
use Rattle.integer_sets.specs.Constraints.{Constraints}
use Rattle.pip_solver.specs.Emptiness.{IsBoundedPoint, HasBoundedPoint}
use Rattle.iteration_domains.specs.Dependence.{Dependence, IsDependence}
use Rattle.pluto_search.specs.declared.kept.Kept.TheVariants as kept
use Rattle.pluto_search.proofs.Emptiness.{empty_is, point_is}
use Rattle.pluto_search.proofs.restricting.asked.Goals as goal

abbrev truth : Result Bool kept.the_data → Bool
truth (Ok b) = b
truth (Err e) = true

pub returns-in-Ok-clause-empty : goal.returns-in-Ok-clause-empty
returns-in-Ok-clause-empty c h =
    let same = ap (λ (z : Dependence). z.system) c.dep.view_is in
    empty_is c.args.parameters c.args.dep.now c.requires (subst IsDependence c.dep.view_is c.dep.invariant)
    (subst (λ (s : Constraints). (x p : List ℤ) → IsBoundedPoint s x p → ⊥) same
    (c.in-Ok.ensures.empty (ap Ok (ap truth h))))

pub returns-in-Ok-clause-point : goal.returns-in-Ok-clause-point
returns-in-Ok-clause-point c h =
    let same = ap (λ (z : Dependence). z.system) c.dep.view_is in
    point_is c.args.parameters c.args.dep.now c.requires (subst IsDependence c.dep.view_is c.dep.invariant)
    (subst HasBoundedPoint same (c.in-Ok.ensures.point (ap Ok (ap truth h))))
