-- Contents and lowest terms; a form in lowest terms has the sign that it had.
use Rattle.whole_numbers.proofs.Common.{◌≡◌, ℕ, zero, suc, ℤ, pos, ◌*ℤ◌, ◌≤ℤ◌, ◌<ℤ◌, List, get_or, ◌↔◌, refl, sym, ◌∙◌}
use Rattle.whole_numbers.proofs.Common.{ap, arith, map, ints, All-map, Affine, multiple_of_form, cancel_le, cancel_eq}
use Rattle.whole_numbers.proofs.Common.{mul_not_negative, mul_zero_right, all_unmapped}
use Rattle.whole_numbers.specs.Content.{content_of_form, lowest_of_form}
use Rattle.fractions.specs.Fractions.{value_over, HoldsOver}
use Rattle.fractions.proofs.PointValues.{value_over-multiple}
use Rattle.whole_numbers.proofs.Lowest.{lowest_of_form_is, lowest_form_stays}

-- lowest terms keep a linear number of a form at 0
pub lowest_zero : (z : Affine → ℤ) → ((k : ℤ) (f : Affine) → z (multiple_of_form k f) ≡ k *ℤ z f) → (f : Affine)
    → z f ≡ pos 0 → z (lowest_of_form f) ≡ pos 0
lowest_zero z linear f h = by_content (content_of_form f) refl
  where
    by_content : (g : ℕ) → content_of_form f ≡ g → z (lowest_of_form f) ≡ pos 0
    by_content zero c = ap z (lowest_form_stays f (omega arith)) ∙ h
    by_content (suc g) c =
        let k = pos (suc g) in
        let low = lowest_of_form f in
        let s = ap z (lowest_of_form_is f ∙ ap (λ (n : ℕ). multiple_of_form (pos n) low) c) in
        let t = linear k low in
        cancel_eq (z low) (pos 0) k (omega (arith, ints)) (omega (arith, ints))

-- lowest terms keep the sign of each value
abbrev pub SameSign : Affine → Affine → Type 0
SameSign f g = (d : ℤ) (xs : List ℤ)
    → ((value_over f d xs ≡ pos 0) ↔ (value_over g d xs ≡ pos 0))
    × ((pos 0 ≤ℤ value_over f d xs) ↔ (pos 0 ≤ℤ value_over g d xs))

pub lowest_sign : (f : Affine) → SameSign (lowest_of_form f) f
lowest_sign f = by_content (content_of_form f) refl
  where
    by_content : (g : ℕ) → content_of_form f ≡ g → SameSign (lowest_of_form f) f
    by_content zero e d xs =
        let same = ap (λ (z : Affine). value_over z d xs) (lowest_form_stays f (omega arith)) in
        ((λ z. sym same ∙ z, λ z. same ∙ z), (λ z. omega (arith, ints), λ z. omega (arith, ints)))
    by_content (suc g) e d xs =
        let k = pos (suc g) in
        let positive : pos 0 <ℤ k = omega (arith, ints) in
        let v = value_over (lowest_of_form f) d xs in
        let whole : f ≡ multiple_of_form k (lowest_of_form f) =
        lowest_of_form_is f ∙ ap (λ (n : ℕ). multiple_of_form (pos n) (lowest_of_form f)) e in
        let same = ap (λ (z : Affine). value_over z d xs) whole ∙ value_over-multiple k (lowest_of_form f) d xs in (
          (
            λ z. let m = ap (λ (y : ℤ). k *ℤ y) z in same ∙ m ∙ mul_zero_right k,
            λ z. cancel_eq v (pos 0) k positive (omega (arith, ints)),
          ),
          (
            λ z. let m = mul_not_negative k v (omega (arith, ints)) z in omega (arith, ints),
            λ z. cancel_le (pos 0) v k positive (omega (arith, ints)),
          ),
        )

-- equalities and rows in lowest terms hold at the same points
pub lowest_holds : (es rs : List Affine) (d : ℤ) (xs : List ℤ)
    → HoldsOver (map lowest_of_form es) (map lowest_of_form rs) d xs ↔ HoldsOver es rs d xs
lowest_holds es rs d xs =
    let Zero : Affine → Type 0 = λ f. value_over f d xs ≡ pos 0 in
    let Least : Affine → Type 0 = λ f. pos 0 ≤ℤ value_over f d xs in (
      λ h. (
        λ k e inside. (lowest_sign (get_or es k e) d xs).0.0 (all_unmapped Zero lowest_of_form es h.0 k e inside),
        λ k e inside. (lowest_sign (get_or rs k e) d xs).1.0 (all_unmapped Least lowest_of_form rs h.1 k e inside),
      ),
      λ h. (
        All-map Zero lowest_of_form es (λ k e inside. (lowest_sign (get_or es k e) d xs).0.1 (h.0 k e inside)),
        All-map Least lowest_of_form rs (λ k e inside. (lowest_sign (get_or rs k e) d xs).1.1 (h.1 k e inside)),
      ),
    )

pub ruleset sign_laws = (lowest_sign)
