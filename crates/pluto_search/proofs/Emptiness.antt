-- What a question of emptiness says of a dependence.
use Rattle.scop_syntax.proofs.Common.{◌≡◌, ℕ, ℤ, pos, List, ◌++◌, refl, sym, ◌∙◌, ap, subst, arith, All, take}
use Rattle.scop_syntax.proofs.Common.{drop, append_assoc, ◌≤ℤ◌, length-take-le, length-drop, take-append-drop}
use Rattle.scop_syntax.proofs.Common.{All-append, not_negative_all, all_front, all_back, range_high, range_low}
use Rattle.std.proofs.lemmas.List.{length-append}
use Rattle.fractions.specs.Farkas.{AreNotNegative}
use Rattle.integer_sets.specs.Points.{Satisfies}
use Rattle.pip_solver.specs.Emptiness.{IsBoundedPoint, HasBoundedPoint}
use Rattle.iteration_domains.specs.Dependence.{Dependence, IsDependence}
use Rattle.schedule_rows.specs.Dependences.{IsEmptyDep}

-- no bounded point: no pair
pub empty_is : (m : ℕ) (d : Dependence) → d.system.parameters ≡ m → IsDependence d
    → ((x p : List ℤ) → IsBoundedPoint d.system x p → ⊥) → IsEmptyDep m d
empty_is m d e i none params x y size r =
    let turns = x.turns ++ (y.turns ++ r.bound) in
    let l = length-append x.turns (y.turns ++ r.bound) in
    let j = length-append y.turns r.bound in
    let a = r.source_size in
    let b = r.target_size in
    let c = r.bound_size in
    let t = i.turns in
    let same : turns ++ params ≡ x.turns ++ (y.turns ++ (r.bound ++ params)) =
    append_assoc x.turns (y.turns ++ r.bound) params
    ∙ ap (λ (zs : List ℤ). x.turns ++ zs) (append_assoc y.turns r.bound params) in
    none turns params (record {
      dimensions = omega arith;
      parameters = size ∙ sym e;
      not_negative = (not_negative_all (turns ++ params)).1
          (All-append (λ z. pos 0 ≤ℤ z) turns params
          (All-append (λ z. pos 0 ≤ℤ z) x.turns (y.turns ++ r.bound) r.source_from_0
          (All-append (λ z. pos 0 ≤ℤ z) y.turns r.bound r.target_from_0 r.bound_from_0)) (range_low params r.range));
      bounded = range_high params r.range;
      inside = subst (λ (z : List ℤ). Satisfies d.system z) (sym same) (r.equalities, r.rows);
    })

-- a bounded point is a pair
pub point_is : (m : ℕ) (d : Dependence) → d.system.parameters ≡ m → IsDependence d → HasBoundedPoint d.system
    → IsEmptyDep m d → ⊥
point_is m d e i h empty =
    let x = h.x in
    let p = h.p in
    let n = d.source.loops in
    let k = d.target.loops in
    let t = i.turns in
    let z = h.is.dimensions in
    let xs = take n x in
    let rest = drop n x in
    let ys = take k rest in
    let qs = drop k rest in
    let ls = length-take-le n x (omega arith) in
    let lr = length-drop n x in
    let lk = length-take-le k rest (omega arith) in
    let ld = length-drop k rest in
    let whole : x ++ p ≡ xs ++ (ys ++ (qs ++ p)) =
    ap (λ (w : List ℤ). w ++ p) (sym (take-append-drop n x)) ∙ (append_assoc xs rest p
    ∙ ap (λ (w : List ℤ). xs ++ w)
    (ap (λ (w : List ℤ). w ++ p) (sym (take-append-drop k rest)) ∙ append_assoc ys qs p)) in
    let nn = (not_negative_all (x ++ p)).0 h.is.not_negative in
    let all = subst (λ (w : List ℤ). AreNotNegative w) whole nn in
    let P : ℤ → Type 0 = λ w. pos 0 ≤ℤ w in
    let back = all_back P xs (ys ++ (qs ++ p)) all in
    let last = all_back P ys (qs ++ p) back in
    let inside = subst (λ (w : List ℤ). Satisfies d.system w) whole h.is.inside in
    empty p (record { number = d.source.statement; turns = xs }) (record { number = d.target.statement; turns = ys })
    (h.is.parameters ∙ e) (record {
      range = λ i x inside. (all_back P qs p last i x inside, h.is.bounded i x inside);
      source = refl;
      target = refl;
      source_size = ls;
      target_size = lk;
      source_from_0 = all_front P xs (ys ++ (qs ++ p)) all;
      target_from_0 = all_front P ys (qs ++ p) back;
      bound = qs;
      bound_size = omega arith;
      bound_from_0 = all_front P qs p last;
      equalities = inside.0;
      rows = inside.1;
    })
