use Rattle.whole_numbers.proofs.Common.{rules, ◌<◌, ◌^◌, pos, arith, FitsSigned, get_or, length, w128, ints, to_z-of_z}
use Rattle.whole_numbers.proofs.Common.{All-get_or}
use Rattle.null_space.specs.Sizes.{IsWithin}
use Rattle.null_space.proofs.ListLoops.{dot_step}
use Rattle.null_space.proofs.Sizes.{within_mul}
use Rattle.null_space.proofs.sums.dot.Goals as goal

pub loop-at-preserved : goal.loop-at-preserved
loop-at-preserved c =
    let xs = c.args.vector.now in
    let ys = c.args.coefficients.now in
    let i = c.loop-at.at in
    let fits_x : FitsSigned w128 (get_or xs i (pos 0)) = search rules in
    let fits_y : FitsSigned w128 (get_or ys i (pos 0)) = search rules in
    let fits_s = c.loop-at.auto.sum-fits in
    let fits : FitsSigned w128 c.multiply_add-sum.result = search rules in
    let e = simp to_z-of_z at c.multiply_add-sum.ensures in
    let kept = c.loop-at.invariant.so_far in
    let size = c.loop-at.invariant.size in
    let inside : i < length xs = omega arith in
    let s = dot_step xs ys i inside (omega arith) in
    let a = All-get_or (IsWithin (2 ^ 109)) xs i (pos 0) inside c.requires.vector in
    let b = All-get_or (IsWithin (2 ^ 14)) ys i (pos 0) (omega arith) c.requires.coefficients in
    let p = within_mul (2 ^ 109) (2 ^ 14) (get_or xs i (pos 0)) (get_or ys i (pos 0)) a b in
    simp to_z-of_z (record { so_far = omega (arith, ints, e, kept, s); size = omega (arith, ints, e, size, p) })

pub multiply_add-sum-requires-clause-sum : goal.multiply_add-sum-requires-clause-sum
multiply_add-sum-requires-clause-sum c =
    let s = c.loop-at.invariant.size in let f = c.requires.few in omega arith
