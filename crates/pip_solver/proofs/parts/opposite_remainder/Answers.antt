use Rattle.whole_numbers.proofs.Common.{rules, ◌≡◌, ◌∙◌, sym, pos, ◌<ℤ◌, arith, FitsSigned, w128, to_z-of_z, ints}
use Rattle.whole_numbers.proofs.Common.{remainder}
use Rattle.pip_solver.proofs.LineParts.{opposite-zero, opposite-more}
use Rattle.pip_solver.proofs.parts.opposite_remainder.Goals as goal

pub returns-then-left-eq0 : goal.returns-then-left-eq0
returns-then-left-eq0 c =
    let fa : FitsSigned w128 c.args.a = c.ranges.a in
    let fd : FitsSigned w128 c.args.divisor = c.ranges.divisor in
    let value = simp to_z-of_z at c.remainder_of-left.ensures.value in
    let none : c.remainder_of-left.result ≡ pos 0 = search rules in
    sym (opposite-zero c.args.a c.args.divisor (omega (arith, ints)) (sym value ∙ none))

pub returns-else-left-eq0 : goal.returns-else-left-eq0
returns-else-left-eq0 c =
    let fa : FitsSigned w128 c.args.a = c.ranges.a in
    let fd : FitsSigned w128 c.args.divisor = c.ranges.divisor in
    let value = simp to_z-of_z at c.remainder_of-left.ensures.value in
    let least = c.remainder_of-left.ensures.least in
    let some : pos 0 <ℤ remainder c.args.a c.args.divisor = omega (arith, ints) in
    let m = opposite-more c.args.a c.args.divisor (omega (arith, ints)) some in
    omega (arith, ints)
