use Rattle.scop_syntax.proofs.Common.{rules, ◌≡◌, ◌∙◌, ℕ, suc, ◌+◌, ◌-◌, ◌++◌, ◌∷◌, [], ap, inr, refl, subst, sym}
use Rattle.scop_syntax.proofs.Common.{length, length-append, FitsSigned, arith, w128, ◌⊎◌, to_z-of_z}
use Rattle.integer_sets.specs.Constraints.{Constraints}
use Rattle.traced_projections.specs.declared.projections.Projection.{Projection}
use Rattle.traced_projections.specs.Projections.{LastFollows, PassesAlone, alone_of, system_in}
use Rattle.plain_scan.specs.Between.{IsLargeOf}
use Rattle.plain_scan.specs.steps.Shadows.{IsShadow, IsShadowIn}
use Rattle.plain_scan.specs.Outlines.{IsLargeAt, IsLargeOwn, IsOpen, IsShadowOf}
use Rattle.plain_scan.proofs.Shadows.{whole_shadow}
use Rattle.plain_scan.proofs.ShadowStops.{next_reached, next_shadow, next_stops, none_found, one_found, own_stops}
use Rattle.plain_scan.proofs.ShadowStops.{shadow_stops}
use Rattle.plain_scan.proofs.AppendedRows.{one_shadow, projection_shape, shadow_at}
use Rattle.plain_scan.proofs.outline.outline_by.Goals as goal

pub loop-count-init : goal.loop-count-init
loop-count-init c =
    let s = c.args.set.now in
    record {
      found = none_found c.args.start 0 refl;
      shadow = λ m count.
          let e : s.system.dimensions ≡ m = omega (arith, count) in
          subst (λ k. IsShadow k s (system_in c.args.start)) e
          (subst (IsShadow s.system.dimensions s) (sym c.requires.start) (whole_shadow s));
      count = search rules;
      each = λ n d inside. absurd (let none : length c.new-shadows.result.items ≡ 0 = search rules in
          omega (arith, none, inside));
    }

pub next_projection-requires : goal.next_projection-requires
next_projection-requires c =
    let s = c.args.set.now.system in
    let n = c.loop-count.count in
    let p = c.args.start in
    let d = ap (λ (w : Projection). (system_in w).dimensions) c.loop-count.invariant.found.is
    ∙ (projection_shape (n - 1) p).0 in
    let same = ap (λ (w : Constraints). w.dimensions) c.requires.start in
    let e = c.dimensions-count-end.ensures ∙ ap (λ (w : Constraints). w.dimensions) c.system-system.ensures in
    let test = c.loop-count-test.true in
    omega (arith, d, e, same, test)

pub returns-in-Err-clause-stops : goal.returns-in-Err-clause-stops
returns-in-Err-clause-stops c =
    let s = c.args.set.now.system in
    let e = c.dimensions-count-end.ensures ∙ ap (λ (w : Constraints). w.dimensions) c.system-system.ensures in
    let same = ap (λ (w : Constraints). w.dimensions) c.requires.start in
    let test = c.loop-count-test.true in
    next_stops s c.args.start c.loop-count.left c.loop-count.count c.in-Err.stop
    c.loop-count.invariant.found (omega (arith, e, same, test)) c.in-Err.ensures

pub shadow_of-requires-clause-some : goal.shadow_of-requires-clause-some
shadow_of-requires-clause-some c =
    let n = c.loop-count.count in
    let p = c.args.start in
    let here = next_reached p c.loop-count.left c.in-Ok.next n c.loop-count.invariant.found
    c.in-Ok.ensures in
    let d = ap (λ (w : Projection). (system_in w).dimensions) here.is ∙ (projection_shape n p).0 in
    let e = c.dimensions-count-end.ensures ∙ ap (λ (w : Constraints). w.dimensions) c.system-system.ensures in
    let same = ap (λ (w : Constraints). w.dimensions) c.requires.start in
    let test = c.loop-count-test.true in
    omega (arith, d, e, same, test)

pub shadow_of-requires-clause-few : goal.shadow_of-requires-clause-few
shadow_of-requires-clause-few c =
    let n = c.loop-count.count in
    let p = c.args.start in
    let here = next_reached p c.loop-count.left c.in-Ok.next n c.loop-count.invariant.found
    c.in-Ok.ensures in
    let d = ap (λ (w : Projection). (system_in w).dimensions) here.is ∙ (projection_shape n p).0 in
    let q = ap (λ (w : Projection). (system_in w).parameters) here.is ∙ (projection_shape n p).1 in
    let same = ap (λ (w : Constraints). w.dimensions) c.requires.start in
    let also = ap (λ (w : Constraints). w.parameters) c.requires.start in
    let few = c.requires.few in
    omega (arith, d, q, same, also, few)

pub returns-in-Err-shadow_of-clause-stops : goal.returns-in-Err-shadow_of-clause-stops
returns-in-Err-shadow_of-clause-stops c =
    let s = c.args.set.now.system in
    let n = c.loop-count.count in
    let p = c.args.start in
    let u = c.in-Ok.next in
    let here = next_reached p c.loop-count.left u n c.loop-count.invariant.found c.in-Ok.ensures in
    let e = c.dimensions-count-end.ensures ∙ ap (λ (w : Constraints). w.dimensions) c.system-system.ensures in
    let same = ap (λ (w : Constraints). w.dimensions) c.requires.start in
    let test = c.loop-count-test.true in
    shadow_stops s p u n c.in-Err-shadow_of.stop here (omega (arith, e, same, test)) c.in-Err-shadow_of.ensures.stops

pub returns-in-Ok-None-clause-found : goal.returns-in-Ok-None-clause-found
returns-in-Ok-None-clause-found c =
    let n = c.loop-count.count in
    let p = c.args.start in
    let u = c.in-Ok.next in
    let here = next_reached p c.loop-count.left u n c.loop-count.invariant.found c.in-Ok.ensures in
    let e = c.dimensions-count-end.ensures ∙ ap (λ (w : Constraints). w.dimensions) c.system-system.ensures in
    let same = ap (λ (w : Constraints). w.dimensions) c.requires.start in
    let test = c.loop-count-test.true in
    let there : IsOpen (alone_of u) = search rules in
    let passed : PassesAlone u = search rules in
    record {
      before = n;
      less = omega (arith, e, same, test);
      passed = here.passed;
      alone = (one_found p u n (suc n) here passed (let one : suc n ≡ n + 1 = omega arith in one)).alone;
      there = subst (λ w. IsOpen (alone_of w)) here.is there;
    }

pub loop-count-preserved : goal.loop-count-preserved
loop-count-preserved c =
    let s = c.args.set.now in
    let n = c.loop-count.count in
    let p = c.args.start in
    let t = c.loop-count.left in
    let u = c.in-Ok.next in
    let old = c.loop-count.shadows.items in
    let shadow = c.in-Ok-Some.shadow in
    let now = c.push.new.self.items in
    let inv = c.loop-count.invariant in
    let here = next_reached p t u n inv.found c.in-Ok.ensures in
    let pushed : now ≡ old ++ shadow ∷ [] = search rules in
    let count = inv.count in
    let more = ap length pushed ∙ length-append old (shadow ∷ []) in
    let alone : PassesAlone u = search rules in
    let follows : LastFollows (system_in u) (alone_of u) = search rules in
    let shown : IsShadowIn (system_in u) (alone_of u) shadow = search rules in
    let d = ap (λ (w : Projection). (system_in w).dimensions) here.is ∙ (projection_shape n p).0 in
    let q = ap (λ (w : Projection). (system_in w).parameters) here.is ∙ (projection_shape n p).1 in
    let same = ap (λ (w : Constraints). w.dimensions) c.requires.start in
    let also = ap (λ (w : Constraints). w.parameters) c.requires.start in
    let e = c.dimensions-count-end.ensures ∙ ap (λ (w : Constraints). w.dimensions) c.system-system.ensures in
    let test = c.loop-count-test.true in
    let m = s.system.dimensions - suc n in
    let total : suc m + n ≡ s.system.dimensions = omega (arith, e, test) in
    let next : (k : ℕ) → k + n ≡ s.system.dimensions → IsShadow k s (system_in u) =
    λ k at. next_shadow s p t u n k c.requires.start inv.found c.in-Ok.ensures at inv.shadow in
    let one : IsShadowOf n s shadow =
    shadow_at n m s (system_in u) (alone_of u) shadow total (omega (arith, d, same, total)) (q ∙ also)
    (next (suc m) total) follows shown in
    record {
      found = one_found p u n (n + 1) here alone refl;
      shadow = λ k at. next k (omega (arith, at));
      count = omega (arith, more, count);
      each = one_shadow s old now shadow pushed inv.each (subst (λ k. IsShadowOf k s shadow) (sym count) one);
    }

pub returns-in-Some-clause-stops : goal.returns-in-Some-clause-stops
returns-in-Some-clause-stops c =
    let s = c.args.set.now.system in
    let p = c.args.start in
    let z = c.in-Some.number in
    let n = c.loop-count.count in
    let e = c.dimensions-count-end.ensures ∙ ap (λ (w : Constraints). w.dimensions) c.system-system.ensures in
    let test = c.loop-count-test.false in
    let end = c.loop-count.auto.count-end in
    let all : n ≡ s.dimensions = omega (arith, e, test, end) in
    let fits : FitsSigned w128 z = search rules in
    let large : IsLargeOf s z = search rules in
    let told : IsLargeAt p z ⊎ IsLargeOwn s p z = inr (own_stops s p c.loop-count.left n z c.loop-count.invariant.found
    all large) in
    simp to_z-of_z told
