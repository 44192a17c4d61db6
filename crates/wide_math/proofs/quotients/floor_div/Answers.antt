use Rattle.whole_numbers.proofs.Common.{FitsSigned, int_div, arith, ◌+ℤ◌, ◌-ℤ◌, pos, ints, w128}
use Rattle.std.proofs.Common.{to_z-of_z}
use Rattle.wide_math.proofs.Rounding.{int_div-ceiling, floor_from_ceiling_above}
use Rattle.wide_math.proofs.quotients.floor_div.Goals as goal

pub returns-then-a-lt0 : goal.returns-then-a-lt0
returns-then-a-lt0 c =
    let a = c.args.a in
    let b = c.args.b in
    let fits_a = c.ranges.a in
    let fits_b = c.ranges.b in
    let rounded = int_div-ceiling (a +ℤ pos 1) b (omega (arith, ints)) (omega (arith, ints)) in
    let fits_above : FitsSigned w128 (a +ℤ pos 1) = omega (arith, ints) in
    let fits_quotient : FitsSigned w128 (int_div (a +ℤ pos 1) b) = omega (arith, ints) in
    let fits_floor : FitsSigned w128 (int_div (a +ℤ pos 1) b -ℤ pos 1) = omega (arith, ints) in
    simp to_z-of_z (floor_from_ceiling_above a b (int_div (a +ℤ pos 1) b) rounded.0)
