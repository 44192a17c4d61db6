use Rattle.whole_numbers.proofs.Common.{refl, arith, ◌^◌, ◌*◌, ◌+ℤ◌, ◌*ℤ◌, w128, to_z-of_z, fits_signed_mul}
use Rattle.whole_numbers.proofs.Common.{fits_signed_from_abs}
use Rattle.null_space.proofs.Sizes.{within_add, within_mul}
use Rattle.null_space.proofs.sums.cross_sum.Goals as goal

pub overflow_add-result : goal.overflow_add-result
overflow_add-result c =
    let f1 = c.ranges.a in
    let f2 = c.ranges.x in
    let f3 = c.ranges.b in
    let f4 = c.ranges.y in
    let a = c.args.a in
    let x = c.args.x in
    let b = c.args.b in
    let y = c.args.y in
    let fp = fits_signed_mul w128 a x (2 ^ 64) (2 ^ 47) c.requires.a c.requires.x (omega arith) in
    let fq = fits_signed_mul w128 b y (2 ^ 64) (2 ^ 47) c.requires.b c.requires.y (omega arith) in
    let l = within_add (2 ^ 64 * 2 ^ 47) (2 ^ 64 * 2 ^ 47) (a *ℤ x) (b *ℤ y)
    (within_mul (2 ^ 64) (2 ^ 47) a x c.requires.a c.requires.x)
    (within_mul (2 ^ 64) (2 ^ 47) b y c.requires.b c.requires.y) in
    let ft = fits_signed_from_abs w128 ((a *ℤ x) +ℤ (b *ℤ y)) (omega (arith, l)) in
    simp to_z-of_z ft

pub returns : goal.returns
returns c =
    let f1 = c.ranges.a in
    let f2 = c.ranges.x in
    let f3 = c.ranges.b in
    let f4 = c.ranges.y in
    let a = c.args.a in
    let x = c.args.x in
    let b = c.args.b in
    let y = c.args.y in
    let fp = fits_signed_mul w128 a x (2 ^ 64) (2 ^ 47) c.requires.a c.requires.x (omega arith) in
    let fq = fits_signed_mul w128 b y (2 ^ 64) (2 ^ 47) c.requires.b c.requires.y (omega arith) in
    let l = within_add (2 ^ 64 * 2 ^ 47) (2 ^ 64 * 2 ^ 47) (a *ℤ x) (b *ℤ y)
    (within_mul (2 ^ 64) (2 ^ 47) a x c.requires.a c.requires.x)
    (within_mul (2 ^ 64) (2 ^ 47) b y c.requires.b c.requires.y) in
    let ft = fits_signed_from_abs w128 ((a *ℤ x) +ℤ (b *ℤ y)) (omega (arith, l)) in
    simp to_z-of_z refl

pub overflow_mul-result : goal.overflow_mul-result
overflow_mul-result c =
    let f1 = c.ranges.a in
    let f2 = c.ranges.x in
    simp to_z-of_z
    (fits_signed_mul w128 c.args.a c.args.x (2 ^ 64) (2 ^ 47) c.requires.a c.requires.x (omega arith))

pub overflow_mul-result-2 : goal.overflow_mul-result-2
overflow_mul-result-2 c =
    let f3 = c.ranges.b in
    let f4 = c.ranges.y in
    simp to_z-of_z
    (fits_signed_mul w128 c.args.b c.args.y (2 ^ 64) (2 ^ 47) c.requires.b c.requires.y (omega arith))
