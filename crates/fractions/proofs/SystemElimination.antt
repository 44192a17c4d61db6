-- The elimination of a variable from equalities and rows is exact over fractions.
use Rattle.whole_numbers.proofs.Common.{◌≡◌, ℕ, ◌<◌, ℤ, pos, ◌*ℤ◌, ◌≤ℤ◌, unsigned_abs, Bool, true, false, List, [], ◌∷◌}
use Rattle.whole_numbers.proofs.Common.{length, set, get_or, ◌↔◌, refl, sym, ◌∙◌, ap, subst, All, Option, Some, None}
use Rattle.whole_numbers.proofs.Common.{if◌then◌else◌, All-cons, All-nil, All-head, All-tail, multiples, Affine}
use Rattle.fractions.specs.Fractions.{value_over, HoldsOver, HoldsForSome}
use Rattle.fractions.specs.Elimination.{coefficient_of, is_zero, first_with, in_front, reduced_all}
use Rattle.fractions.specs.Elimination.{projected_rows, eliminated_by, eliminated}
use Rattle.fractions.proofs.PointValues.{value_over-set}
use Rattle.fractions.proofs.ChosenRows.{is_zero_iff}
use Rattle.fractions.proofs.Content.{lowest_holds}
use Rattle.fractions.proofs.RowElimination.{project_to, project_from}
use Rattle.fractions.proofs.EqualityElimination.{zero_scales, least_scales, size_positive, asked_numerator, at_fraction}
use Rattle.fractions.proofs.EqualityElimination.{at_fraction-zero, asked_of, reduced_all_to, reduced_all_from}

-- the first equality with the variable, taken out
abbrev pub TakenOut : ℕ → List Affine → (Affine → Type 0) → Affine × List Affine → Type 0
TakenOut i es P found = (is_zero (coefficient_of i found.0) ≡ false) × (All P es ↔ (P found.0 × All P found.1))

taken_step : (i : ℕ) (P : Affine → Type 0) (f : Affine) (fs : List Affine) (b : Bool)
    → is_zero (coefficient_of i f) ≡ b
    → ((g : Affine × List Affine) → first_with i fs ≡ Some g → TakenOut i fs P g)
    → (g : Affine × List Affine) → (if b then in_front f (first_with i fs) else Some (f, fs)) ≡ Some g
    → TakenOut i (f ∷ fs) P g
taken_step i P f fs true free more g h = below (first_with i fs) refl h
  where
    below : (o : Option (Affine × List Affine)) → first_with i fs ≡ o → in_front f o ≡ Some g
        → TakenOut i (f ∷ fs) P g
    below None e s = cc
    below (Some q) e s =
        let t = more q e in
        let first : q.0 ≡ g.0 = cc in
        let rest : f ∷ q.1 ≡ g.1 = cc in (
          ap (λ (z : Affine). is_zero (coefficient_of i z)) (sym first) ∙ t.0,
          (
            λ all.
                let u = t.1.0 (All-tail P f fs all) in (
                  rw first at u.0,
                  subst (λ (zs : List Affine). All P zs) rest
                      (All-cons P f q.1 (All-head P f fs all) u.1),
                ),
            λ both.
                let kept = subst (λ (zs : List Affine). All P zs) (sym rest) both.1 in
                let one : P q.0 = rw first both.0 in
                All-cons P f fs (All-head P f q.1 kept) (t.1.1 (one, All-tail P f q.1 kept)),
          ),
        )
taken_step i P f fs false other more g h =
    let first : f ≡ g.0 = cc in
    let rest : fs ≡ g.1 = cc in (
      ap (λ (z : Affine). is_zero (coefficient_of i z)) (sym first) ∙ other,
      (
        λ all. (rw first at (All-head P f fs all), rw rest at (All-tail P f fs all)),
        λ both.
            let one : P f = rw first both.0 in
            let others : All P fs = rw rest both.1 in
            All-cons P f fs one others,
      ),
    )

pub taken_out : (i : ℕ) (P : Affine → Type 0) (es : List Affine) (g : Affine × List Affine)
    → first_with i es ≡ Some g
    → TakenOut i es P g
taken_out i P [] g h = cc
taken_out i P (f ∷ fs) g h = taken_step i P f fs (is_zero (coefficient_of i f)) refl (taken_out i P fs) g h

-- no equality has the variable
absent_step : (i : ℕ) (f : Affine) (fs : List Affine) (b : Bool) → is_zero (coefficient_of i f) ≡ b
    → (first_with i fs ≡ None → All (λ e. coefficient_of i e ≡ pos 0) fs)
    → (if b then in_front f (first_with i fs) else Some (f, fs)) ≡ None
    → All (λ e. coefficient_of i e ≡ pos 0) (f ∷ fs)
absent_step i f fs true free more h =
    All-cons (λ e. coefficient_of i e ≡ pos 0) f fs ((is_zero_iff (coefficient_of i f)).0 free)
    (more (below (first_with i fs) h))
  where
    below : (o : Option (Affine × List Affine)) → in_front f o ≡ None → o ≡ None
    below None s = refl
    below (Some q) s = cc
absent_step i f fs false other more h = cc

pub absent : (i : ℕ) (es : List Affine) → first_with i es ≡ None → All (λ e. coefficient_of i e ≡ pos 0) es
absent i [] h = All-nil (λ e. coefficient_of i e ≡ pos 0)
absent i (f ∷ fs) h = absent_step i f fs (is_zero (coefficient_of i f)) refl (absent i fs) h

-- before lowest terms
abbrev pub reduced_holds : ℕ → Option (Affine × List Affine) → List Affine → List Affine → ℤ → List ℤ → Type 0
reduced_holds i None es rs d xs = HoldsOver es (projected_rows i rs) d xs
reduced_holds i (Some found) es rs d xs = HoldsOver (reduced_all i found.0 found.1) (reduced_all i found.0 rs) d xs

to_parts : (i : ℕ) (es : List Affine) (d : ℤ) (xs : List ℤ) (k n : ℤ) (S : ℤ → Type 0) → i < length xs
    → All (λ f. S (value_over f (k *ℤ d) (set (multiples k xs) i n))) es
    → All (λ f. S (at_fraction i d xs k n f)) es
to_parts i es d xs k n S h all j c inside =
    let v = value_over-set (get_or es j c) k d xs i n h in rw v at (all j c inside)

from_parts : (i : ℕ) (es : List Affine) (d : ℤ) (xs : List ℤ) (k n : ℤ) (S : ℤ → Type 0) → i < length xs
    → All (λ f. S (at_fraction i d xs k n f)) es → All
    (λ f. S (value_over f (k *ℤ d) (set (multiples k xs) i n))) es
from_parts i es d xs k n S h all j c inside =
    let v = value_over-set (get_or es j c) k d xs i n h in rw v (all j c inside)

pub holds_reduced : (i : ℕ) (es rs : List Affine) (d : ℤ) (xs : List ℤ) (o : Option (Affine × List Affine))
    → i < length xs
    → first_with i es ≡ o → HoldsForSome i es rs d xs ↔ reduced_holds i o es rs d xs
holds_reduced i es rs d xs None h e = (there, back)
  where
    Zero : ℤ → Type 0
    Zero z = z ≡ pos 0

    none : All (λ f. coefficient_of i f ≡ pos 0) es
    none = absent i es e

    there : HoldsForSome i es rs d xs → reduced_holds i None es rs d xs
    there s = (
      λ j c inside.
          let f = get_or es j c in
          let z = to_parts i es d xs s.factor s.numerator Zero h s.holds.0 j c inside in
          let y = at_fraction-zero i d xs s.factor s.numerator f (none j c inside) in
          (zero_scales s.factor (value_over f d xs) s.positive).0 (sym y ∙ z),
      project_to i rs d xs s.factor s.numerator h s.positive s.holds.1,
    )

    back : reduced_holds i None es rs d xs → HoldsForSome i es rs d xs
    back both =
        let p = project_from i rs d xs h both.1 in
        record {
          factor = p.0;
          numerator = p.1;
          positive = p.2;
          holds = (
            from_parts i es d xs p.0 p.1 Zero h (λ j c inside.
                let f = get_or es j c in
                at_fraction-zero i d xs p.0 p.1 f (none j c inside)
                ∙ (zero_scales p.0 (value_over f d xs) p.2).1 (both.0 j c inside)),
            p.3,
          );
        }
holds_reduced i es rs d xs (Some g) h e = (there, back)
  where
    Zero : ℤ → Type 0
    Zero z = z ≡ pos 0

    Least : ℤ → Type 0
    Least z = pos 0 ≤ℤ z

    there : HoldsForSome i es rs d xs → reduced_holds i (Some g) es rs d xs
    there s =
        let k = s.factor in
        let n = s.numerator in
        let t = taken_out i (λ f. Zero (at_fraction i d xs k n f)) es g e in
        let u = t.1.0 (to_parts i es d xs k n Zero h s.holds.0) in (
          reduced_all_to Zero zero_scales i g.0 g.1 d xs k n s.positive t.0 u.0 u.1,
          reduced_all_to Least least_scales i g.0 rs d xs k n s.positive t.0 u.0
              (to_parts i rs d xs k n Least h s.holds.1),
        )

    back : reduced_holds i (Some g) es rs d xs → HoldsForSome i es rs d xs
    back both =
        let k = pos (unsigned_abs (coefficient_of i g.0)) in
        let n = asked_of i d xs g.0 in
        let t = taken_out i (λ f. Zero (at_fraction i d xs k n f)) es g e in
        let own = asked_numerator (coefficient_of i g.0) (Rattle.fractions.proofs.PointValues.rest_over i d xs g.0) in
        record {
          factor = k;
          numerator = n;
          positive = size_positive (coefficient_of i g.0) t.0;
          holds = (
            from_parts i es d xs k n Zero h
                (t.1.1 (own, reduced_all_from Zero zero_scales i g.0 g.1 d xs t.0 both.0)),
            from_parts i rs d xs k n Least h (reduced_all_from Least least_scales i g.0 rs d xs t.0 both.1),
          );
        }

-- with lowest terms
lowest_of : (i : ℕ) (o : Option (Affine × List Affine)) (es rs : List Affine) (d : ℤ) (xs : List ℤ)
    → HoldsOver (eliminated_by i o es rs).0 (eliminated_by i o es rs).1 d xs ↔ reduced_holds i o es rs d xs
lowest_of i None es rs d xs = lowest_holds es (projected_rows i rs) d xs
lowest_of i (Some g) es rs d xs = lowest_holds (reduced_all i g.0 g.1) (reduced_all i g.0 rs) d xs

-- a point of fractions satisfies the result of an elimination exactly where some fraction for the variable satisfies
-- the system
pub elimination_is_exact : (i : ℕ) (es rs : List Affine) (d : ℤ) (xs : List ℤ) → i < length xs
    → HoldsOver (eliminated i es rs).0 (eliminated i es rs).1 d xs ↔ HoldsForSome i es rs d xs
unfolding eliminated
elimination_is_exact i es rs d xs h =
    let o = first_with i es in
    let a = lowest_of i o es rs d xs in
    let b = holds_reduced i es rs d xs o h refl in
    (λ s. b.1 (a.0 s), λ s. a.1 (b.0 s))
