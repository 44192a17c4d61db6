use Rattle.scop_syntax.proofs.Common.{⊤}
use Rattle.tree_simplification.proofs.single.straight.is_straight_loop.Given as goal

abbrev pub invariant-loop-part : goal.invariant-loop-part
invariant-loop-part l = ⊤
