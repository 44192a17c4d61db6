use Rattle.whole_numbers.proofs.Common.{rules, ◌≡◌, ◌+◌, ◌++◌, ℤ, pos, get_or, set, map, take, drop, sym, subst, arith}
use Rattle.whole_numbers.proofs.Common.{FitsSigned, w128, to_z-of_z, remainder, get_or_default}
use Rattle.std.proofs.lemmas.List.Edits.{map_over_more}
use Rattle.checked_tableau.proofs.cuts.leave_remainders.Goals as goal

pub loop-at-preserved : goal.loop-at-preserved
loop-at-preserved c =
    let row = c.args.numbers.now in
    let i = c.loop-at.at in
    let d = c.args.divisor in
    let fd = c.ranges.divisor in
    let fx : FitsSigned w128 (get_or c.loop-at.numbers i (pos 0)) = search rules in
    let fq : FitsSigned w128 c.remainder_of.result = search rules in
    let kept = simp to_z-of_z at c.loop-at.invariant in
    let q = simp to_z-of_z at c.remainder_of.ensures.value in
    let more = map_over_more (λ (z : ℤ). remainder z d) row c.loop-at.numbers i (get_or c.loop-at.numbers i (pos 0))
    (omega arith) kept (get_or_default c.loop-at.numbers i (pos 0) (get_or c.loop-at.numbers i (pos 0))
    (omega arith)) in
    simp to_z-of_z (subst (λ (z : ℤ). set c.loop-at.numbers i z
    ≡ map (λ (z : ℤ). remainder z d) (take (i + 1) row) ++ drop (i + 1) row) (sym q) more)
