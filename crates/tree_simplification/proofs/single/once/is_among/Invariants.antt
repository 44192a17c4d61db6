use Rattle.scop_syntax.proofs.Common.{⊤}
use Rattle.tree_simplification.proofs.single.once.is_among.Given as goal

abbrev pub invariant-loop-other : goal.invariant-loop-other
invariant-loop-other l = ⊤
