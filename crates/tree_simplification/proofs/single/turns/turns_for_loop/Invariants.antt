use Rattle.scop_syntax.proofs.Common.{◌≤◌}
use Rattle.tree_simplification.proofs.single.turns.turns_for_loop.Given as goal

abbrev pub invariant-loop-part : goal.invariant-loop-part
invariant-loop-part l = l.most ≤ 4
