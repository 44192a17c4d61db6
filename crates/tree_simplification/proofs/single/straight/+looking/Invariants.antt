use Rattle.scop_syntax.proofs.Common.{◌+◌, ◌*◌, ⊤}
use Rattle.tree_simplification.proofs.single.straight.+looking.Given as goal

abbrev pub decreases-are_straight : goal.decreases-are_straight
decreases-are_straight l = l.depth * 3 + 2

abbrev pub decreases-is_straight : goal.decreases-is_straight
decreases-is_straight l = l.depth * 3 + 1

abbrev pub decreases-is_straight_under : goal.decreases-is_straight_under
decreases-is_straight_under l = l.depth * 3

abbrev pub invariant-are_straight-loop-node : goal.invariant-are_straight-loop-node
invariant-are_straight-loop-node l = ⊤
