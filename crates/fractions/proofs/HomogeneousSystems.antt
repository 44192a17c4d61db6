-- An elimination of a system without constants has none.
use Rattle.whole_numbers.proofs.Common.{ℕ, ℤ, ◌*ℤ◌, List, refl, ap, All, arith, map, ints, All-map, Affine}
use Rattle.whole_numbers.proofs.Common.{sum_of_forms, multiple_of_form, mul_zero_right}
use Rattle.fractions.proofs.CarriedProperties.{eliminated_all, sums_carry}
use Rattle.fractions.proofs.Content.{lowest_zero}
use Rattle.fractions.specs.Elimination.{eliminated, narrowed}
use Rattle.fractions.specs.Farkas.{IsHomogeneous}

sum_homogeneous : (a b : ℤ) (f g : Affine) → IsHomogeneous f → IsHomogeneous g
    → IsHomogeneous (sum_of_forms (multiple_of_form a f) (multiple_of_form b g))
sum_homogeneous a b f g hf hg =
    let x = ap (λ (z : ℤ). a *ℤ z) hf in
    let y = ap (λ (z : ℤ). b *ℤ z) hg in
    let u = mul_zero_right a in
    let v = mul_zero_right b in
    omega (arith, ints)

pub eliminated_homogeneous : (i : ℕ) (es rs : List Affine) → All IsHomogeneous es → All IsHomogeneous rs
    → All IsHomogeneous (eliminated i es rs).0 × All IsHomogeneous (eliminated i es rs).1
eliminated_homogeneous i es rs he hr = eliminated_all i IsHomogeneous IsHomogeneous es rs
    (sums_carry IsHomogeneous sum_homogeneous (lowest_zero (λ f. f.constant) (λ k f. refl)) i) he hr

pub narrowed_homogeneous : (i : ℕ) (fs : List Affine) → All IsHomogeneous fs
    → All IsHomogeneous (map (narrowed i) fs)
narrowed_homogeneous i fs all = All-map IsHomogeneous (narrowed i) fs (λ k d inside. all k d inside)
