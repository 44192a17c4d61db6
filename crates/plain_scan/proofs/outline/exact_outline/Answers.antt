use Rattle.scop_syntax.proofs.Common.{rules, ◌≡◌, subst, IfErr, IfOk, MatchOption, Option, Some, None, Result, Ok, Err}
use Rattle.integer_sets.specs.Constraints.{IsSized, variables_in}
use Rattle.fm_projection.specs.declared.stop.FmStop.{FmStop}
use Rattle.traced_projections.specs.declared.projections.Projection.TheVariants as projection
use Rattle.plain_scan.specs.Outlines.{AreShadows, IsOpenFrom, StopsBy}
use Rattle.plain_scan.specs.steps.Shadows.{IsOpenSomewhere}
use Rattle.plain_scan.proofs.ShadowStops.{exact_open}
use Rattle.plain_scan.proofs.outline.exact_outline.Goals as goal

-- what is open is told in other words
other_open : {V : Type 0} (r : Result (Option V) FmStop) (A B : Type 0) (P : V → Type 0) → (A → B)
    → IfOk r (λ found. MatchOption found A P) → IfOk r (λ found. MatchOption found B P)
other_open (Ok None) A B P f h = f h
other_open (Ok (Some v)) A B P f h = h
other_open (Err stop) A B P f h = tt

pub returns-in-Ok-clause-found : goal.returns-in-Ok-clause-found
returns-in-Ok-clause-found c =
    let s = c.args.set.now.system in
    let same : c.in-Ok.copy ≡ s = search rules in
    let sized : IsSized (variables_in s) s.equalities s.rows = search rules in
    other_open c.outline_by.result (IsOpenFrom (projection.Exact c.in-Ok.copy)) (IsOpenSomewhere s)
    (λ v. AreShadows c.args.set.now v.items)
    (λ o. exact_open s sized (subst (λ w. IsOpenFrom (projection.Exact w)) same o)) c.outline_by.ensures.found

pub returns-in-Ok-clause-stops : goal.returns-in-Ok-clause-stops
returns-in-Ok-clause-stops c =
    let s = c.args.set.now.system in
    let same : c.in-Ok.copy ≡ s = search rules in
    subst (λ w. IfErr c.outline_by.result (StopsBy s (projection.Exact w))) same c.outline_by.ensures.stops
