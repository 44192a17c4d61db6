use Rattle.whole_numbers.proofs.Common.{rules, ◌≡◌, All, true, FitsSigned, List, ℤ, pos, get_or, subst, arith, w64}
use Rattle.whole_numbers.proofs.Common.{take_all, All-more}
use Rattle.checked_tableau.proofs.staying.are_narrow.Goals as goal

pub loop-at-preserved : goal.loop-at-preserved
loop-at-preserved c =
    let fits : FitsSigned w64 (get_or c.args.row.now c.loop-at.at (pos 0)) = search rules in
    All-more (FitsSigned w64) c.args.row.now c.loop-at.at (pos 0) (omega arith) c.loop-at.invariant fits

pub returns : goal.returns
returns c =
    λ (e : true ≡ true). subst (λ (xs : List ℤ). All (FitsSigned w64) xs)
    (take_all c.loop-at.at c.args.row.now (omega arith)) c.loop-at.invariant
