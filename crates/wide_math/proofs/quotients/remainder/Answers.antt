use Rattle.whole_numbers.proofs.Common.{FitsSigned, arith, ◌+ℤ◌, int_rem, ints, w128}
use Rattle.std.proofs.Common.{to_z-of_z}
use Rattle.std.proofs.lemmas.Int.{rem_below}
use Rattle.wide_math.proofs.Rounding.{rem_not_negative, rem_negative}
use Rattle.wide_math.proofs.quotients.remainder.Goals as goal

pub returns-then-rest-lt0 : goal.returns-then-rest-lt0
returns-then-rest-lt0 c =
    let a = c.args.a in
    let b = c.args.b in
    let fits_a = c.ranges.a in
    let fits_b = c.ranges.b in
    let small = rem_below a b (omega (arith, ints)) in
    let fits_r : FitsSigned w128 (int_rem a b) = omega (arith, ints, small) in
    let test = simp to_z-of_z at c.if-rest-lt0.true in
    let fits_s : FitsSigned w128 (int_rem a b +ℤ b) = omega (arith, ints, small) in
    simp to_z-of_z (rem_negative a b (omega (arith, ints)) (omega (arith, ints)))

pub returns-else-rest-lt0 : goal.returns-else-rest-lt0
returns-else-rest-lt0 c =
    let a = c.args.a in
    let b = c.args.b in
    let fits_a = c.ranges.a in
    let fits_b = c.ranges.b in
    let small = rem_below a b (omega (arith, ints)) in
    let fits_r : FitsSigned w128 (int_rem a b) = omega (arith, ints, small) in
    let test = simp to_z-of_z at c.if-rest-lt0.false in
    simp to_z-of_z (rem_not_negative a b (omega (arith, ints)) (omega (arith, ints)))
