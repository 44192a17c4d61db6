use Rattle.scop_syntax.proofs.Common.{◌+◌}
use Rattle.loop_tree.specs.View.{nodes_of, tree_of}
use Rattle.loop_tree.proofs.Weights.{weight, weight_all}
use Rattle.loop_tree.proofs.resting.+resting.Given as goal

abbrev pub decreases-rest_nodes : goal.decreases-rest_nodes
decreases-rest_nodes g l = weight_all (nodes_of l.nodes.now) + 2

abbrev pub decreases-rest_at : goal.decreases-rest_at
decreases-rest_at g l = weight_all (nodes_of l.nodes.now) + 1

abbrev pub decreases-rest_node : goal.decreases-rest_node
decreases-rest_node g l = weight (tree_of l.node.now)

abbrev pub decreases-rest_loop : goal.decreases-rest_loop
decreases-rest_loop g l = weight_all (nodes_of l.body.now) + 4

abbrev pub decreases-rest_turn : goal.decreases-rest_turn
decreases-rest_turn g l = weight_all (nodes_of l.body.now) + 3
