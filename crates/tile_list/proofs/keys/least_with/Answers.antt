use Rattle.scop_syntax.proofs.Common.{rules, ◌≡◌, ◌∙◌, ℕ, ◌^◌, ◌-◌, ◌<◌, ℤ, pos, ap, ap₂, subst, sym, arith, to_z, of_z, ◌+ℤ◌}
use Rattle.scop_syntax.proofs.Common.{◌*ℤ◌, FitsSigned, w64, w128, ints, to_z-of_z, abs_at_most, fits_signed_mul}
use Rattle.scop_syntax.proofs.Common.{mul_distrib_right, mul_one_left}
use Rattle.tile_list.proofs.keys.least_with.Goals as goal

-- a product of 64 bits each, and the next one
product_fits : (z : ℤ) (n : ℕ) → FitsSigned w64 z → n < 2 ^ 64 → FitsSigned w128 (z *ℤ pos n)
product_fits z n fits small =
    let size = abs_at_most z (2 ^ 63) (omega (arith, ints, fits)) (omega (arith, ints, fits)) in
    fits_signed_mul w128 z (pos n) (2 ^ 63) (2 ^ 64 - 1) size (omega arith) (omega arith)

next_fits : (z : ℤ) (n : ℕ) → FitsSigned w64 z → n < 2 ^ 64 → FitsSigned w128 ((z *ℤ pos n) +ℤ pos n)
next_fits z n fits small =
    let size = abs_at_most (z +ℤ pos 1) (2 ^ 63) (omega (arith, ints, fits)) (omega (arith, ints, fits)) in
    subst (FitsSigned w128)
    (mul_distrib_right z (pos 1) (pos n) ∙ ap (λ (y : ℤ). (z *ℤ pos n) +ℤ y) (mul_one_left (pos n)))
    (fits_signed_mul w128 (z +ℤ pos 1) (pos n) (2 ^ 63) (2 ^ 64 - 1) size (omega arith) (omega arith))

-- the factors as the code holds them
factors_are : (z : ℤ) (n : ℕ) → FitsSigned w64 z → n < 2 ^ 64
    → to_z w128 (of_z w128 (to_z w64 (of_z w64 z))) *ℤ to_z w128 n ≡ z *ℤ pos n
factors_are z n fits small =
    let wide : FitsSigned w128 z = omega (arith, ints, fits) in
    let size : to_z w128 n ≡ pos n = omega (arith, ints, small) in
    ap₂ (λ (x y : ℤ). x *ℤ y)
    (ap (λ (y : ℤ). to_z w128 (of_z w128 y)) (to_z-of_z w64 z fits) ∙ to_z-of_z w128 z wide) size

pub overflow_mul-result : goal.overflow_mul-result
overflow_mul-result c =
    let small : c.args.size < 2 ^ 64 = search rules in
    subst (FitsSigned w128) (sym (factors_are c.args.coordinate c.args.size c.ranges.coordinate small))
    (product_fits c.args.coordinate c.args.size c.ranges.coordinate small)

pub returns-clause-is : goal.returns-clause-is
returns-clause-is c =
    let small : c.args.size < 2 ^ 64 = search rules in
    let z = c.args.coordinate in
    ap (λ (y : ℤ). to_z w128 (of_z w128 y)) (factors_are z c.args.size c.ranges.coordinate small)
    ∙ to_z-of_z w128 (z *ℤ pos c.args.size) (product_fits z c.args.size c.ranges.coordinate small)

pub returns-clause-small : goal.returns-clause-small
returns-clause-small c =
    let small : c.args.size < 2 ^ 64 = search rules in
    let z = c.args.coordinate in
    let n = c.args.size in
    let fits = c.ranges.coordinate in
    subst (λ (y : ℤ). FitsSigned w128 (y +ℤ pos n))
    (sym (ap (λ (y : ℤ). to_z w128 (of_z w128 y)) (factors_are z n fits small)
    ∙ to_z-of_z w128 (z *ℤ pos n) (product_fits z n fits small))) (next_fits z n fits small)
