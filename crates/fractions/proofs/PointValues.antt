-- The values of forms at points of fractions.
use Rattle.whole_numbers.proofs.Common.{◌≡◌, ℕ, ◌<◌, ℤ, pos, ◌+ℤ◌, ◌-ℤ◌, ◌*ℤ◌, neg_ℤ, List, length, set, get_or, arith}
use Rattle.whole_numbers.proofs.Common.{ints, dot, multiples, Affine, value_of, sum_of_forms, multiple_of_form}
use Rattle.whole_numbers.proofs.Common.{mul_distrib_left, mul_distrib_right, mul_sub_left, mul_assoc_int, left_comm}
use Rattle.whole_numbers.proofs.Common.{dot-sums, dot-multiples, dot-multiples_right, dot-set, length-multiples}
use Rattle.whole_numbers.proofs.Common.{get_or-multiples}
use Rattle.fractions.specs.Fractions.{value_over}
use Rattle.fractions.specs.Elimination.{coefficient_of, combined}

-- over 1 the value is the value at a whole point
pub value_over-one : (f : Affine) (xs : List ℤ) → value_over f (pos 1) xs ≡ value_of f xs
value_over-one f xs = omega (arith, ints)

pub value_over-sum : (f g : Affine) (d : ℤ) (xs : List ℤ)
    → value_over (sum_of_forms f g) d xs ≡ value_over f d xs +ℤ value_over g d xs
value_over-sum f g d xs =
    let e = dot-sums f.coefficients g.coefficients xs in
    let s = mul_distrib_right f.constant g.constant d in
    omega (arith, ints)

pub value_over-multiple : (k : ℤ) (f : Affine) (d : ℤ) (xs : List ℤ)
    → value_over (multiple_of_form k f) d xs ≡ k *ℤ value_over f d xs
value_over-multiple k f d xs =
    let e = dot-multiples k f.coefficients xs in
    let s = mul_distrib_left (dot f.coefficients xs) (f.constant *ℤ d) k in
    let t = mul_assoc_int k f.constant d in
    omega (arith, ints)

-- the same point over a multiple of the denominator
pub value_over-scaled : (f : Affine) (k d : ℤ) (xs : List ℤ)
    → value_over f (k *ℤ d) (multiples k xs) ≡ k *ℤ value_over f d xs
value_over-scaled f k d xs =
    let e = dot-multiples_right k f.coefficients xs in
    let s = mul_distrib_left (dot f.coefficients xs) (f.constant *ℤ d) k in
    let t = left_comm f.constant k d in
    omega (arith, ints)

-- the value without the part of variable i
abbrev pub rest_over : ℕ → ℤ → List ℤ → Affine → ℤ
rest_over i d xs f = value_over f d xs -ℤ (coefficient_of i f *ℤ get_or xs i (pos 0))

-- the value where variable i is a fraction of its own
pub value_over-set : (f : Affine) (k d : ℤ) (xs : List ℤ) (i : ℕ) (n : ℤ) → i < length xs
    → value_over f (k *ℤ d) (set (multiples k xs) i n) ≡ (k *ℤ rest_over i d xs f) +ℤ (coefficient_of i f *ℤ n)
value_over-set f k d xs i n h =
    let a = coefficient_of i f in
    let x = get_or xs i (pos 0) in
    let inside : i < length (multiples k xs) = omega (arith, length-multiples k xs) in
    let e = dot-set f.coefficients (multiples k xs) i n inside in
    let g = get_or-multiples k xs i in
    let e' = rw g at e in
    let s = mul_sub_left n (k *ℤ x) a in
    let t = left_comm a k x in
    let u = mul_sub_left (value_over f d xs) (a *ℤ x) k in
    let v = value_over-scaled f k d xs in
    omega (arith, ints)

-- a pair's value
pub value_over-combined : (i : ℕ) (p n : Affine) (d : ℤ) (xs : List ℤ)
    → value_over (combined i p n) d xs
    ≡ (neg_ℤ (coefficient_of i n) *ℤ rest_over i d xs p) +ℤ (coefficient_of i p *ℤ rest_over i d xs n)
value_over-combined i p n d xs =
    let a = coefficient_of i p in
    let c = coefficient_of i n in
    let x = get_or xs i (pos 0) in
    let e = value_over-sum (multiple_of_form (neg_ℤ c) p) (multiple_of_form a n) d xs in
    let f = value_over-multiple (neg_ℤ c) p d xs in
    let g = value_over-multiple a n d xs in
    let s = mul_sub_left (value_over p d xs) (a *ℤ x) (neg_ℤ c) in
    let t = mul_sub_left (value_over n d xs) (c *ℤ x) a in
    let u = left_comm a c x in
    let v = mul_assoc_int (neg_ℤ c) a x in
    let w = Rattle.whole_numbers.proofs.Ring.mul_neg_left c (a *ℤ x) in
    omega (arith, ints)

pub ruleset over_laws = (value_over-one, value_over-scaled)
