use Rattle.whole_numbers.proofs.Common.{rules, All, FitsSigned, List, ℤ, pos, get_or, subst, arith, w128, take_all}
use Rattle.whole_numbers.proofs.Common.{All-more}
use Rattle.wide_math.proofs.ranges.held.Goals as goal

pub loop-at-preserved : goal.loop-at-preserved
loop-at-preserved c =
    let fits : FitsSigned w128 (get_or c.args.numbers.now c.loop-at.at (pos 0)) = search rules in
    All-more (FitsSigned w128) c.args.numbers.now c.loop-at.at (pos 0) (omega arith) c.loop-at.invariant fits

pub returns : goal.returns
returns c =
    subst (λ (xs : List ℤ). All (FitsSigned w128) xs) (take_all c.loop-at.at c.args.numbers.now (omega arith))
    c.loop-at.invariant
