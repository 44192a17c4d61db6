use Rattle.whole_numbers.proofs.Common.{refl, arith, ◌^◌, ◌*◌, ◌+ℤ◌, ◌*ℤ◌, w128, to_z-of_z, fits_signed_mul}
use Rattle.whole_numbers.proofs.Common.{fits_signed_from_abs}
use Rattle.null_space.proofs.Sizes.{within_add, within_mul}
use Rattle.null_space.proofs.sums.multiply_add.Goals as goal

pub returns : goal.returns
returns c =
    let fs = c.ranges.sum in
    let fa = c.ranges.a in
    let fb = c.ranges.b in
    let s = c.args.sum in
    let a = c.args.a in
    let b = c.args.b in
    let fp = fits_signed_mul w128 a b (2 ^ 109) (2 ^ 14) c.requires.a c.requires.b (omega arith) in
    let l = within_add (2 ^ 126) (2 ^ 109 * 2 ^ 14) s (a *ℤ b) c.requires.sum
    (within_mul (2 ^ 109) (2 ^ 14) a b c.requires.a c.requires.b) in
    let ft = fits_signed_from_abs w128 (s +ℤ (a *ℤ b)) (omega (arith, l)) in
    simp to_z-of_z refl

pub overflow_mul-result : goal.overflow_mul-result
overflow_mul-result c =
    let fa = c.ranges.a in
    let fb = c.ranges.b in
    simp to_z-of_z
    (fits_signed_mul w128 c.args.a c.args.b (2 ^ 109) (2 ^ 14) c.requires.a c.requires.b (omega arith))

pub overflow_add-result : goal.overflow_add-result
overflow_add-result c =
    let fs = c.ranges.sum in
    let fa = c.ranges.a in
    let fb = c.ranges.b in
    let s = c.args.sum in
    let a = c.args.a in
    let b = c.args.b in
    let fp = fits_signed_mul w128 a b (2 ^ 109) (2 ^ 14) c.requires.a c.requires.b (omega arith) in
    let l = within_add (2 ^ 126) (2 ^ 109 * 2 ^ 14) s (a *ℤ b) c.requires.sum
    (within_mul (2 ^ 109) (2 ^ 14) a b c.requires.a c.requires.b) in
    let ft = fits_signed_from_abs w128 (s +ℤ (a *ℤ b)) (omega (arith, l)) in
    simp to_z-of_z ft
