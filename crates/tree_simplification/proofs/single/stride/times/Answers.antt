use Rattle.scop_syntax.proofs.Common.{rules, ◌≡◌, ◌∙◌, ℕ, ◌*◌, ◌^◌, ◌<◌, ◌≤◌, ℤ, pos, ap, ap₂, subst, sym, arith, to_z, of_z}
use Rattle.scop_syntax.proofs.Common.{◌*ℤ◌, FitsSigned, w64, w128, ints, to_z-of_z, unsigned_abs, unsigned_abs-mul}
use Rattle.scop_syntax.proofs.Common.{fits_signed_from_abs, mul-le-mul}
use Rattle.tree_simplification.proofs.single.stride.times.Goals as goal

-- the product is small
product_small : (z : ℤ) (n : ℕ) → unsigned_abs z ≤ 2 ^ 40 → n ≤ 4 → unsigned_abs (z *ℤ pos n) ≤ 2 ^ 42
product_small z n small few =
    let size = unsigned_abs-mul z (pos n) in
    let most : unsigned_abs z * n ≤ 2 ^ 40 * 4 = mul-le-mul small few in
    omega (arith, size, most)

product_fits : (z : ℤ) (n : ℕ) → unsigned_abs z ≤ 2 ^ 40 → n ≤ 4 → FitsSigned w128 (z *ℤ pos n)
product_fits z n small few =
    let most = product_small z n small few in
    fits_signed_from_abs w128 (z *ℤ pos n) (omega (arith, most))

-- the factors as the code holds them
factors_are : (z : ℤ) (n : ℕ) → FitsSigned w64 z → n ≤ 4
    → to_z w128 (of_z w128 (to_z w64 (of_z w64 z))) *ℤ to_z w128 n ≡ z *ℤ pos n
factors_are z n fits few =
    let wide : FitsSigned w128 z = omega (arith, ints, fits) in
    let by : to_z w128 n ≡ pos n = omega (arith, ints, few) in
    ap₂ (λ (x y : ℤ). x *ℤ y)
    (ap (λ (y : ℤ). to_z w128 (of_z w128 y)) (to_z-of_z w64 z fits) ∙ to_z-of_z w128 z wide) by

-- and the product
product_is : (z : ℤ) (n : ℕ) → FitsSigned w64 z → unsigned_abs z ≤ 2 ^ 40 → n ≤ 4
    → to_z w128 (of_z w128 (to_z w128 (of_z w128 (to_z w64 (of_z w64 z))) *ℤ to_z w128 n)) ≡ z *ℤ pos n
product_is z n fits small few =
    ap (λ (y : ℤ). to_z w128 (of_z w128 y)) (factors_are z n fits few)
    ∙ to_z-of_z w128 (z *ℤ pos n) (product_fits z n small few)

pub overflow_mul-result : goal.overflow_mul-result
overflow_mul-result c =
    subst (FitsSigned w128) (sym (factors_are c.args.number c.args.by c.ranges.number c.requires.few))
    (product_fits c.args.number c.args.by c.requires.small c.requires.few)

pub returns-clause-value : goal.returns-clause-value
returns-clause-value c =
    product_is c.args.number c.args.by c.ranges.number c.requires.small c.requires.few

pub returns-clause-small : goal.returns-clause-small
returns-clause-small c =
    subst (λ (y : ℤ). unsigned_abs y ≤ 2 ^ 42)
    (sym (product_is c.args.number c.args.by c.ranges.number c.requires.small c.requires.few))
    (product_small c.args.number c.args.by c.requires.small c.requires.few)
