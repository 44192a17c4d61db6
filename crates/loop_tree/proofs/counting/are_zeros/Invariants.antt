use Rattle.scop_syntax.proofs.Common.{drop}
use Rattle.loop_tree.specs.Fits.{AreZeros}
use Rattle.loop_tree.proofs.counting.are_zeros.Given as goal

abbrev pub invariant-loop-number : goal.invariant-loop-number
invariant-loop-number l = AreZeros (drop l.number-index l.numbers) → AreZeros l.numbers
