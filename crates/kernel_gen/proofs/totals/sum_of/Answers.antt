-- Nothing is left, and the sum so far is below 2^64.
use Rattle.scop_syntax.proofs.Common.{◌≡◌, ◌+◌, ◌%◌, ◌^◌, ◌≤◌, ap, List, [], ℕ, drop, length, arith, sum}
use Rattle.std.specs.List.{sum_by}
use Rattle.std.proofs.Math.ListN.{drop_of_length-le}
use Rattle.kernel_gen.proofs.totals.sum_of.Goals as goal

pub returns : goal.returns
returns c =
    let at = c.loop-at in
    let arrays = c.args.arrays.now in
    let past : length arrays ≤ at.at = omega (arith, c.loop-at-test.false, c.count-at-end.ensures) in
    let none : drop at.at arrays ≡ [] = drop_of_length-le arrays past in
    let same = ap (λ (rows : List (List ℕ)). (at.total + sum_by sum rows) % 2 ^ 64) none in
    omega (arith, same, at.invariant.whole, at.invariant.small)
