use Rattle.whole_numbers.proofs.Common.{pos}
use Rattle.wide_math.specs.declared.Op.TheVariants.{Gcd}
use Rattle.wide_math.proofs.CommonDivisor.{gcd_of_read_sizes, checked_read, checked_read_wide}
use Rattle.wide_math.proofs.divisors.gcd.Goals as goal

pub returns-in-Ok : goal.returns-in-Ok
returns-in-Ok c =
    let a = c.args.a in
    let b = c.args.b in
    let g = c.gcd_of_sizes.result in
    let size_a = c.unsigned_abs.ensures.value in
    let size_b = c.unsigned_abs-2.ensures.value in
    let is_gcd = gcd_of_read_sizes a b _ _ g c.ranges.a c.ranges.b size_a size_b c.gcd_of_sizes.ensures in
    (g, is_gcd, checked_read Gcd a b (pos g) _ c.in-Ok.ensures.0 c.in-Ok.ensures.1)

pub returns-in-Err : goal.returns-in-Err
returns-in-Err c =
    let a = c.args.a in
    let b = c.args.b in
    let g = c.gcd_of_sizes.result in
    let size_a = c.unsigned_abs.ensures.value in
    let size_b = c.unsigned_abs-2.ensures.value in
    let is_gcd = gcd_of_read_sizes a b _ _ g c.ranges.a c.ranges.b size_a size_b c.gcd_of_sizes.ensures in
    (g, is_gcd, checked_read_wide Gcd a b (pos g) c.ranges.a c.ranges.b c.in-Err.ensures)
