use Rattle.scop_syntax.proofs.Common.{drop, NotNegative}
use Rattle.tree_simplification.proofs.asking.are_natural.Given as goal

abbrev pub invariant-loop-number : goal.invariant-loop-number
invariant-loop-number l = NotNegative (drop l.number-index l.numbers) → NotNegative l.numbers
