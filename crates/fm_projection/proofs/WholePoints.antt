-- Whole points of a system are points of what its eliminations leave.
use Rattle.whole_numbers.proofs.Common.{◌≡◌, ℕ, zero, suc, ◌-◌, ◌<◌, ℤ, pos, List, [], ◌∷◌, ◌++◌, length, set, get_or}
use Rattle.whole_numbers.proofs.Common.{refl, sym, ◌∙◌, ap, subst, All, arith, length-append, ◌≤◌, ◌*ℤ◌, ints}
use Rattle.whole_numbers.proofs.Common.{multiples, Affine, multiples-one, mul_one_left}
use Rattle.std.proofs.lemmas.List.{set-get_or}
use Rattle.fractions.specs.Fractions.{HoldsOver, HoldsForSome}
use Rattle.fractions.proofs.SystemElimination.{elimination_is_exact}
use Rattle.fractions.proofs.AbsentVariables.{eliminated_absent}
use Rattle.fractions.proofs.Chain.{narrowed_holds}
use Rattle.integer_sets.specs.Constraints.{Constraints, IsSized, variables_in}
use Rattle.affine_forms.specs.Parts.{variables_of}
use Rattle.fm_projection.specs.Projecting.{elimination_of, gone, Follow, projected, without_column}
use Rattle.fm_projection.proofs.Exact.{eliminated_sized}
use Rattle.fm_projection.proofs.RemovedEntries.{narrowed_sized}
use Rattle.fm_projection.proofs.TightestRows.{kept, tightened_holds}
use Rattle.fm_projection.proofs.Law.{whole_point}

-- a point's own value is a fraction for the variable
own_value : (i : ℕ) (es rs : List Affine) (d : ℤ) (point : List ℤ) → HoldsOver es rs d point
    → HoldsForSome i es rs d point
own_value i es rs d point h =
    record {
      factor = pos 1;
      numerator = get_or point i (pos 0);
      positive = omega (arith, ints);
      holds = subst (λ (xs : List ℤ). HoldsOver es rs (pos 1 *ℤ d) xs) (sym same)
          (subst (λ (z : ℤ). HoldsOver es rs z point) (sym (mul_one_left d)) h);
    }
  where
    same : set (multiples (pos 1) point) i (get_or point i (pos 0)) ≡ point
    same =
        ap (λ (xs : List ℤ). set xs i (get_or point i (pos 0))) (multiples-one point)
        ∙ set-get_or point i (pos 0)

-- a point of fractions, without its entry of an eliminated dimension, is one of what the elimination leaves
pub follow_over : (i : ℕ) (s : Constraints) (d : ℤ) (front : List ℤ) (x : ℤ) (back : List ℤ) → length front ≡ i
    → HoldsOver s.equalities s.rows d (front ++ x ∷ back)
    → HoldsOver (gone i s).equalities (gone i s).rows d (front ++ back)
follow_over i s d front x back size h =
    let inside : i < length (front ++ x ∷ back) = omega (arith, length-append front (x ∷ back), size) in
    let some = own_value i s.equalities s.rows d (front ++ x ∷ back) h in
    let left = (elimination_is_exact i s.equalities s.rows d (front ++ x ∷ back) inside).1 some in
    let absent = eliminated_absent i s.equalities s.rows in
    tightened_holds (without_column i (elimination_of i s)) d (front ++ back)
    ((narrowed_holds (elimination_of i s).equalities (elimination_of i s).rows d front x back i size absent.0 absent.1).1
    left)

pub follow : (i : ℕ) (s : Constraints) → Follow i s (gone i s)
follow i s outer x rest size h =
    (whole_point (gone i s) (outer ++ rest)).0
    (follow_over i s (pos 1) outer x rest size ((whole_point s (outer ++ x ∷ rest)).1 h))

pub one_more : (xs : List ℤ) (y : ℤ) (ys : List ℤ) → (xs ++ y ∷ []) ++ ys ≡ xs ++ y ∷ ys
one_more [] y ys = refl
one_more (z ∷ xs) y ys = ap (λ (zs : List ℤ). z ∷ zs) (one_more xs y ys)

-- a projection's forms speak of its own variables
pub projected_sized : (n : ℕ) (s : Constraints) → n ≤ s.dimensions → IsSized (variables_in s) s.equalities s.rows
    → ((projected n s).dimensions ≡ s.dimensions - n) × ((projected n s).parameters ≡ s.parameters)
    × IsSized (variables_in (projected n s)) (projected n s).equalities (projected n s).rows
projected_sized zero s few sized = (omega arith, refl, sized)
projected_sized (suc n) s few sized =
    let i = s.dimensions - suc n in
    let t = projected n s in
    let more = projected_sized n s (omega (arith, few)) sized in
    let d = more.0 in
    let wide =
    eliminated_sized (variables_in t) i t.equalities t.rows more.2.equalities_sized more.2.rows_sized in
    let v : variables_in t ≡ suc (variables_in (gone i t)) = omega (arith, d, few) in
    let inside : i < suc (variables_in (gone i t)) = omega (arith, d, few) in
    let P : ℕ → List Affine → Type 0 = λ k fs. All (λ f. variables_of f ≡ k) fs in (
      omega (arith, d),
      more.1,
      record {
        equalities_sized = narrowed_sized i (variables_in (gone i t)) (elimination_of i t).equalities
            (gone i t).equalities (subst (λ k. P k (elimination_of i t).equalities) v wide.0) inside refl;
        rows_sized = kept (λ f. variables_of f ≡ variables_in (gone i t)) (without_column i (elimination_of i t)).rows
            (narrowed_sized i (variables_in (gone i t)) (elimination_of i t).rows
            (without_column i (elimination_of i t)).rows (subst (λ k. P k (elimination_of i t).rows) v wide.1) inside
            refl);
      },
    )
