-- Combinations of forms, and what Farkas's identity is for.
use Rattle.whole_numbers.proofs.Common.{◌≡◌, ℕ, ℤ, pos, negsuc, ◌*ℤ◌, neg_ℤ, ◌≤ℤ◌, List, [], ◌∷◌, ◌++◌, refl, ◌∙◌, ap}
use Rattle.whole_numbers.proofs.Common.{All, arith, All-cons, All-nil, All-append, All-head, All-tail, map, ints, dot}
use Rattle.whole_numbers.proofs.Common.{multiples, Affine, multiple_of_form, mul_distrib_right, mul_zero_left}
use Rattle.whole_numbers.proofs.Common.{mul_not_negative, cancel_le, get_or-sums, get_or-multiples, dot-nil}
use Rattle.whole_numbers.proofs.Lists.{dot_same}
use Rattle.fractions.specs.Fractions.{value_over, HoldsOver}
use Rattle.fractions.specs.Elimination.{coefficient_of}
use Rattle.fractions.specs.Farkas.{two_rows, combination, AreNotNegative, HasFarkas}
use Rattle.fractions.proofs.PointValues.{value_over-sum, value_over-multiple}

-- a combination of rows that are not negative is not negative
pub combination_not_negative : (ms : List ℤ) (gs : List Affine) (d : ℤ) (xs : List ℤ) → AreNotNegative ms
    → All (λ g. pos 0 ≤ℤ value_over g d xs) gs → pos 0 ≤ℤ value_over (combination ms gs) d xs
combination_not_negative [] gs d xs h all = let e = mul_zero_left d in omega (arith, ints)
combination_not_negative (m ∷ ms) [] d xs h all = let e = mul_zero_left d in omega (arith, ints)
combination_not_negative (m ∷ ms) (g ∷ gs) d xs h all =
    let more = combination_not_negative ms gs d xs (All-tail (λ x. pos 0 ≤ℤ x) m ms h)
    (All-tail (λ g. pos 0 ≤ℤ value_over g d xs) g gs all) in
    let one = mul_not_negative m (value_over g d xs) (All-head (λ x. pos 0 ≤ℤ x) m ms h)
    (All-head (λ g. pos 0 ≤ℤ value_over g d xs) g gs all) in
    let s = value_over-sum (multiple_of_form m g) (combination ms gs) d xs in
    let t = value_over-multiple m g d xs in
    omega (arith, ints)

-- what the identity is for: where the rows are not negative the form is not
pub farkas_not_negative : (rows : List Affine) (form : Affine) (d : ℤ) (xs : List ℤ) → HasFarkas rows form
    → pos 0 ≤ℤ d
    → All (λ g. pos 0 ≤ℤ value_over g d xs) rows → pos 0 ≤ℤ value_over form d xs
farkas_not_negative rows form d xs h hd all =
    let c = combination h.multipliers rows in
    let free = All-head (λ x. pos 0 ≤ℤ x) h.free h.multipliers h.not_negative in
    let one = combination_not_negative h.multipliers rows d xs
    (All-tail (λ x. pos 0 ≤ℤ x) h.free h.multipliers h.not_negative) all in
    let two = mul_not_negative h.free d free hd in
    let k = h.factor in
    let e = value_over-multiple k form d xs in
    let f = dot_same (multiples k form.coefficients) c.coefficients xs
    (λ i. get_or-multiples k form.coefficients i ∙ h.linear i) in
    let g = ap (λ (z : ℤ). z *ℤ d) h.constant in
    let s = mul_distrib_right h.free c.constant d in
    cancel_le (pos 0) (value_over form d xs) k h.positive (omega (arith, ints))

-- where equalities are 0 their two rows are not negative
two_rows_hold : (es : List Affine) (d : ℤ) (xs : List ℤ) → All (λ f. value_over f d xs ≡ pos 0) es
    → All (λ g. pos 0 ≤ℤ value_over g d xs) (two_rows es)
two_rows_hold [] d xs all = All-nil (λ g. pos 0 ≤ℤ value_over g d xs)
two_rows_hold (e ∷ es) d xs all =
    let Least : Affine → Type 0 = λ g. pos 0 ≤ℤ value_over g d xs in
    let zero_here = All-head (λ f. value_over f d xs ≡ pos 0) e es all in
    let turned = multiple_of_form (negsuc 0) e in
    let v = value_over-multiple (negsuc 0) e d xs in
    let n = ap (λ (z : ℤ). negsuc 0 *ℤ z) zero_here in
    All-cons Least e (turned ∷ two_rows es) (omega (arith, ints))
    (All-cons Least turned (two_rows es) (omega (arith, ints))
    (two_rows_hold es d xs (All-tail (λ f. value_over f d xs ≡ pos 0) e es all)))

-- the same of a system: at each of its points the form is not negative
pub farkas_of_system : (es rs : List Affine) (form : Affine) (d : ℤ) (xs : List ℤ)
    → HasFarkas (two_rows es ++ rs) form → pos 0 ≤ℤ d
    → HoldsOver es rs d xs → pos 0 ≤ℤ value_over form d xs
farkas_of_system es rs form d xs h hd holds =
    farkas_not_negative (two_rows es ++ rs) form d xs h hd
    (All-append (λ g. pos 0 ≤ℤ value_over g d xs) (two_rows es) rs (two_rows_hold es d xs holds.0) holds.1)

-- the dot product of multipliers and the rows' coefficients i is the combination's coefficient i
pub combination_linear : (ms : List ℤ) (gs : List Affine) (i : ℕ)
    → dot (map (λ g. neg_ℤ (coefficient_of i g)) gs) ms ≡ neg_ℤ (coefficient_of i (combination ms gs))
combination_linear [] gs i = dot-nil (map (λ g. neg_ℤ (coefficient_of i g)) gs)
combination_linear (m ∷ ms) [] i = refl
combination_linear (m ∷ ms) (g ∷ gs) i =
    let more = combination_linear ms gs i in
    let s = get_or-sums (multiples m g.coefficients) (combination ms gs).coefficients i in
    let t = get_or-multiples m g.coefficients i in
    let u = Rattle.whole_numbers.proofs.Ring.mul_neg_left (coefficient_of i g) m in
    omega (arith, ints)

pub combination_constant : (ms : List ℤ) (gs : List Affine)
    → dot (map (λ g. neg_ℤ g.constant) gs) ms ≡ neg_ℤ (combination ms gs).constant
combination_constant [] gs = dot-nil (map (λ g. neg_ℤ g.constant) gs)
combination_constant (m ∷ ms) [] = refl
combination_constant (m ∷ ms) (g ∷ gs) =
    let more = combination_constant ms gs in
    let u = Rattle.whole_numbers.proofs.Ring.mul_neg_left g.constant m in
    omega (arith, ints)
