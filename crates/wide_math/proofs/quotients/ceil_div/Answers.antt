use Rattle.whole_numbers.proofs.Common.{FitsSigned, int_div, arith, ◌+ℤ◌, ◌-ℤ◌, pos, ints, w128}
use Rattle.std.proofs.Common.{to_z-of_z}
use Rattle.wide_math.proofs.Rounding.{int_div-floor, ceiling_from_floor_below}
use Rattle.wide_math.proofs.quotients.ceil_div.Goals as goal

pub returns-then-a-gt0 : goal.returns-then-a-gt0
returns-then-a-gt0 c =
    let a = c.args.a in
    let b = c.args.b in
    let fits_a = c.ranges.a in
    let fits_b = c.ranges.b in
    let rounded = int_div-floor (a -ℤ pos 1) b (omega (arith, ints)) (omega (arith, ints)) in
    let fits_below : FitsSigned w128 (a -ℤ pos 1) = omega (arith, ints) in
    let fits_quotient : FitsSigned w128 (int_div (a -ℤ pos 1) b) = omega (arith, ints) in
    let fits_ceiling : FitsSigned w128 (int_div (a -ℤ pos 1) b +ℤ pos 1) = omega (arith, ints) in
    simp to_z-of_z (ceiling_from_floor_below a b (int_div (a -ℤ pos 1) b) rounded.0)
