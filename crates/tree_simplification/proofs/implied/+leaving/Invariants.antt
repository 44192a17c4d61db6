use Rattle.tree_simplification.proofs.Common.{◌+◌, nodes_of, tree_of, weight, weight_all, context_of}
use Rattle.tree_simplification.proofs.Trees.{Leaves}
use Rattle.tree_simplification.proofs.implied.+leaving.Given as goal

abbrev pub decreases-trim_nodes : goal.decreases-trim_nodes
decreases-trim_nodes l = weight_all (nodes_of l.nodes.now) + 1

abbrev pub decreases-trim_node : goal.decreases-trim_node
decreases-trim_node l = weight (tree_of l.node.now)

abbrev pub decreases-trim_loop : goal.decreases-trim_loop
decreases-trim_loop l = weight_all (nodes_of l.body.now) + 3

abbrev pub decreases-trim_guard : goal.decreases-trim_guard
decreases-trim_guard l = weight_all (nodes_of l.body.now) + 3

abbrev pub invariant-trim_nodes-loop-node : goal.invariant-trim_nodes-loop-node
invariant-trim_nodes-loop-node l = Leaves (context_of l.fn.context) l.nodes l.node-index l.out.items
