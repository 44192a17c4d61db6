use Rattle.scop_syntax.proofs.Common.{◌+◌}
use Rattle.loop_tree.specs.View.{nodes_of, tree_of}
use Rattle.loop_tree.proofs.Weights.{weight, weight_all}
use Rattle.loop_tree.proofs.ending.+ending.Given as goal

abbrev pub decreases-is_ended : goal.decreases-is_ended
decreases-is_ended l = weight_all (nodes_of l.nodes.now) + 2

abbrev pub decreases-ends_at : goal.decreases-ends_at
decreases-ends_at l = weight_all (nodes_of l.nodes.now) + 1

abbrev pub decreases-node_ends : goal.decreases-node_ends
decreases-node_ends l = weight (tree_of l.node.now)
