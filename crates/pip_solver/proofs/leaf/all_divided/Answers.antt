use Rattle.whole_numbers.proofs.Common.{rules, ◌∙◌, sym, refl, pos, get_or, arith, FitsSigned, w128, ints, to_z-of_z}
use Rattle.pip_solver.proofs.PartDivisions.{divided-more, divided-not}
use Rattle.pip_solver.proofs.leaf.all_divided.Goals as goal

pub loop-number-preserved : goal.loop-number-preserved
loop-number-preserved c =
    let xs = c.args.numbers.now in
    let k = c.loop-number.number-index in
    let fits : FitsSigned w128 c.args.divisor = search rules in
    let fitted : FitsSigned w128 (get_or xs k (pos 0)) = search rules in
    let kept = simp to_z-of_z at c.loop-number.invariant in
    let made = simp to_z-of_z at c.remainder_of.ensures.value in
    simp to_z-of_z (sym (divided-more c.args.divisor xs k c.remainder_of.result c.loop-number-test.true made
    (omega (arith, ints))) ∙ kept)

pub returns-then-remainder_of-ne0 : goal.returns-then-remainder_of-ne0
returns-then-remainder_of-ne0 c =
    let xs = c.args.numbers.now in
    let k = c.loop-number.number-index in
    let fits : FitsSigned w128 c.args.divisor = search rules in
    let fitted : FitsSigned w128 (get_or xs k (pos 0)) = search rules in
    let kept = simp to_z-of_z at c.loop-number.invariant in
    let made = simp to_z-of_z at c.remainder_of.ensures.value in
    sym (divided-not c.args.divisor xs k c.remainder_of.result c.loop-number-test.true made
    (λ e. c.if-remainder_of-ne0.true (rw e refl))) ∙ kept
