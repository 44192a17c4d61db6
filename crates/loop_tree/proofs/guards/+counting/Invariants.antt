use Rattle.scop_syntax.proofs.Common.{◌≡◌, ◌+◌, ◌-◌, ◌^◌, ◌≤◌, drop, min}
use Rattle.loop_tree.specs.Shape.{inner_guards_all}
use Rattle.loop_tree.specs.View.{nodes_of, tree_of}
use Rattle.loop_tree.proofs.Weights.{weight, weight_all}
use Rattle.loop_tree.proofs.guards.+counting.Given as goal

abbrev pub decreases-count_nodes : goal.decreases-count_nodes
decreases-count_nodes l = weight_all (nodes_of l.nodes.now) + 1

abbrev pub decreases-count_node : goal.decreases-count_node
decreases-count_node l = weight (tree_of l.node.now)

abbrev pub invariant-count_nodes-loop-node : goal.invariant-count_nodes-loop-node
invariant-count_nodes-loop-node l =
    (l.count ≤ 2 ^ 64 - 1)
    × (min (l.count + inner_guards_all l.inside (nodes_of (drop l.node-index l.nodes))) (2 ^ 64 - 1)
    ≡ min (inner_guards_all l.inside (nodes_of l.nodes)) (2 ^ 64 - 1))
