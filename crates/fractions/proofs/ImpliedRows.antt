-- A row whose complement with the other rows has no whole point is implied by them over fractions, where all are
-- homogeneous.
use Rattle.whole_numbers.proofs.Common.{◌≡◌, ℤ, pos, negsuc, ◌-ℤ◌, ◌*ℤ◌, neg_ℤ, ◌≤ℤ◌, ◌<ℤ◌, List, [], ◌∷◌, ◌++◌, length}
use Rattle.whole_numbers.proofs.Common.{get_or, refl, sym, ◌∙◌, ap, subst, All, arith, ints, by_lt_z, All-cons, All-nil}
use Rattle.whole_numbers.proofs.Common.{All-append, dot, Affine, complement, mul_neg_left, mul_one_left, dot-multiples}
use Rattle.whole_numbers.proofs.Common.{all_front, all_back}
use Rattle.fractions.specs.Fractions.{value_over, HoldsOver}
use Rattle.fractions.specs.Farkas.{AreNotNegative, IsHomogeneous, HasNoPoint}

-- a homogeneous form's value does not depend on the denominator
free_of_denominator : (f : Affine) (d e : ℤ) (xs : List ℤ) → IsHomogeneous f → value_over f d xs ≡ value_over f e xs
free_of_denominator f d e xs h =
    let s = ap (λ (z : ℤ). z *ℤ d) h in
    let t = ap (λ (z : ℤ). z *ℤ e) h in
    omega (arith, ints)

complement_value : (f : Affine) (xs : List ℤ) → IsHomogeneous f → value_over (complement f) (pos 1) xs
    ≡ neg_ℤ (value_over f (pos 1) xs) -ℤ pos 1
complement_value f xs h =
    let e = dot-multiples (negsuc 0) f.coefficients xs in
    let g = mul_neg_left (pos 1) (dot f.coefficients xs) in
    let o = mul_one_left (dot f.coefficients xs) in
    omega (arith, ints)

pub implied_row : (es front : List Affine) (r : Affine) (back : List Affine) (d : ℤ) (xs : List ℤ)
    → All IsHomogeneous es → All IsHomogeneous (front ++ back) → IsHomogeneous r
    → HasNoPoint (length xs) es ((front ++ back) ++ complement r ∷ []) → AreNotNegative xs
    → HoldsOver es (front ++ back) d xs → HoldsOver es (front ++ r ∷ back) d xs
implied_row es front r back d xs he hs hr none positive holds = (
  holds.0,
  All-append Least front (r ∷ back) (all_front Least front back holds.1)
      (All-cons Least r back own (all_back Least front back holds.1)),
)
  where
    Least : Affine → Type 0
    Least f = pos 0 ≤ℤ value_over f d xs

    Whole : Affine → Type 0
    Whole f = pos 0 ≤ℤ value_over f (pos 1) xs

    own : pos 0 ≤ℤ value_over r d xs
    own = by_lt_z (value_over r d xs) (pos 0)
        (λ (below : value_over r d xs <ℤ pos 0).
        let same = free_of_denominator r d (pos 1) xs hr in
        let n = complement_value r xs hr in
        absurd (none xs refl positive (
          λ j c inside. sym (free_of_denominator (get_or es j c) d (pos 1) xs (he j c inside)) ∙ holds.0 j c inside,
          All-append Whole (front ++ back) (complement r ∷ [])
              (λ j c inside. subst (λ (z : ℤ). pos 0 ≤ℤ z)
              (free_of_denominator (get_or (front ++ back) j c) d (pos 1) xs (hs j c inside))
              (holds.1 j c inside))
              (All-cons Whole (complement r) [] (omega (arith, ints)) (All-nil Whole)),
        )))
        (λ (up : pos 0 ≤ℤ value_over r d xs). up)
