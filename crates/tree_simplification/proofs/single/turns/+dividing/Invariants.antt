use Rattle.scop_syntax.proofs.Common.{◌+◌, ◌*◌, ◌≤◌}
use Rattle.tree_simplification.proofs.single.turns.+dividing.Given as goal

abbrev pub decreases-turns_in : goal.decreases-turns_in
decreases-turns_in l = l.depth * 2 + 1

abbrev pub decreases-turns_in_node : goal.decreases-turns_in_node
decreases-turns_in_node l = l.depth * 2

abbrev pub invariant-turns_in-loop-node : goal.invariant-turns_in-loop-node
invariant-turns_in-loop-node l = l.most ≤ 4
