use Rattle.whole_numbers.proofs.Common.{rules, ◌≡◌, ℤ, pos, neg_ℤ, ◌-ℤ◌, ap, arith, FitsSigned, refl, Ok, w128, ints}
use Rattle.whole_numbers.proofs.Common.{to_z-of_z}
use Rattle.checked_tableau.specs.Lines.{turned_run}
use Rattle.checked_tableau.proofs.cuts.turned_remainder.Goals as goal

pub overflow_sub-result : goal.overflow_sub-result
overflow_sub-result c = omega (arith, ints, c.remainder_of.ensures.least, c.remainder_of.ensures.below)

pub returns-in-Err : goal.returns-in-Err
unfolding turned_run
returns-in-Err c =
    let fa : FitsSigned w128 c.args.a = c.ranges.a in
    let failed = simp to_z-of_z at c.in-Err.ensures in
    rw (← failed) refl

pub returns-in-Ok : goal.returns-in-Ok
unfolding turned_run
returns-in-Ok c =
    let fa : FitsSigned w128 c.args.a = c.ranges.a in
    let fd : FitsSigned w128 c.args.divisor = c.ranges.divisor in
    let fo : FitsSigned w128 c.in-Ok.opposite = search rules in
    let made = simp to_z-of_z at c.in-Ok.ensures in
    let value = simp to_z-of_z at c.remainder_of.ensures.value in
    let r = c.remainder_of.result in
    let fr : FitsSigned w128 r = search rules in
    let fn : FitsSigned w128 (pos 0 -ℤ r) =
    omega (arith, ints, c.remainder_of.ensures.least, c.remainder_of.ensures.below) in
    let turned : pos 0 -ℤ r ≡ neg_ℤ r = omega (arith, ints) in
    rw (← made, ← value) (simp to_z-of_z (ap (λ (z : ℤ). Ok z) turned))
