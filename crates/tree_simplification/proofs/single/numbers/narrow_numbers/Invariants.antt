use Rattle.scop_syntax.proofs.Common.{◌≡◌, ◌^◌, take, AreAtMost}
use Rattle.tree_simplification.proofs.single.numbers.narrow_numbers.Given as goal

abbrev pub invariant-loop-number : goal.invariant-loop-number
invariant-loop-number l =
    (l.narrowed.items ≡ take l.number-index l.numbers) × AreAtMost (2 ^ 45) (take l.number-index l.numbers)
