-- Products of numbers of 64 bits, and their differences, have 128 bits. A sum may not: -2^63 times itself, twice.
use Rattle.whole_numbers.proofs.Common.{◌≡◌, ℤ, pos, ◌+ℤ◌, ◌-ℤ◌, ◌*ℤ◌, ◌≤ℤ◌, neg_ℤ, FitsSigned, arith, ints, w64, w128}
use Rattle.whole_numbers.proofs.Common.{Ok, fits_iff, mul_not_negative, mul_distrib_right, mul_distrib_left}
use Rattle.whole_numbers.proofs.Common.{mul_sub_right, mul_sub_left}
use Rattle.wide_math.specs.Checked.{product_of, cross_of}
use Rattle.wide_math.proofs.Steps.{checked-fits}
use Rattle.wide_math.specs.declared.Op.TheVariants.{Sub, Mul}

-- a product of numbers of 64 bits is at most 2^126
pub product_at_most : (x y : ℤ) → FitsSigned w64 x → FitsSigned w64 y
    → (x *ℤ y) ≤ℤ pos 85070591730234615865843651857942052864
product_at_most x y fx fy =
    let m = pos 9223372036854775808 in
    let a = mul_not_negative (m -ℤ x) (m +ℤ y) (omega (arith, ints)) (omega (arith, ints)) in
    let b = mul_not_negative (m +ℤ x) (m -ℤ y) (omega (arith, ints)) (omega (arith, ints)) in
    let c = mul_sub_right m x (m +ℤ y) in
    let d = mul_distrib_left m y x in
    let e = mul_distrib_right m x (m -ℤ y) in
    let f = mul_sub_left m y x in
    omega (arith, ints)

-- and at least -2^126 + 2^63
pub product_at_least : (x y : ℤ) → FitsSigned w64 x → FitsSigned w64 y
    → neg_ℤ (pos 85070591730234615856620279821087277056) ≤ℤ (x *ℤ y)
product_at_least x y fx fy =
    let m = pos 9223372036854775808 in
    let n = pos 9223372036854775807 in
    let a = mul_not_negative (m +ℤ x) (m +ℤ y) (omega (arith, ints)) (omega (arith, ints)) in
    let b = mul_not_negative (n -ℤ x) (n -ℤ y) (omega (arith, ints)) (omega (arith, ints)) in
    let c = mul_distrib_right m x (m +ℤ y) in
    let d = mul_distrib_left m y x in
    let e = mul_sub_right n x (n -ℤ y) in
    let f = mul_sub_left n y x in
    omega (arith, ints)

-- a difference of two products of numbers of 64 bits has 128 bits
pub cross_fits : (a b c d : ℤ) → FitsSigned w64 a → FitsSigned w64 b → FitsSigned w64 c → FitsSigned w64 d
    → FitsSigned w128 ((a *ℤ b) -ℤ (c *ℤ d))
cross_fits a b c d fa fb fc fd =
    let p = product_at_most a b fa fb in
    let q = product_at_least a b fa fb in
    let r = product_at_most c d fc fd in
    let s = product_at_least c d fc fd in
    omega (arith, ints)

-- a product of numbers of 64 bits has 128 bits
pub product_fits : (a b : ℤ) → FitsSigned w64 a → FitsSigned w64 b → FitsSigned w128 (a *ℤ b)
product_fits a b fa fb =
    let p = product_at_most a b fa fb in
    let q = product_at_least a b fa fb in
    omega (arith, ints)

-- a product of numbers of 64 bits is given
product_of_narrow : (a b : ℤ) → FitsSigned w64 a → FitsSigned w64 b → product_of a b ≡ Ok (a *ℤ b)
product_of_narrow a b fa fb = checked-fits Mul a b (a *ℤ b) ((fits_iff (a *ℤ b)).1 (product_fits a b fa fb))

-- the run of such a difference gives it
pub cross_of_narrow : (a b c d : ℤ) → FitsSigned w64 a → FitsSigned w64 b → FitsSigned w64 c → FitsSigned w64 d
    → cross_of a b c d ≡ Ok ((a *ℤ b) -ℤ (c *ℤ d))
unfolding cross_of
cross_of_narrow a b c d fa fb fc fd =
    let z = (a *ℤ b) -ℤ (c *ℤ d) in
    rw (product_of_narrow a b fa fb, product_of_narrow c d fc fd)
    (checked-fits Sub (a *ℤ b) (c *ℤ d) z ((fits_iff z).1 (cross_fits a b c d fa fb fc fd)))
