use Rattle.scop_syntax.proofs.Common.{◌≡◌, ◌+◌, List, ℤ, drop, length}
use Rattle.loop_tree.specs.steps.Chain.{values_in}
use Rattle.loop_tree.specs.steps.Counting.{AreWithin}
use Rattle.loop_tree.specs.Conditions.{CanWalk}
use Rattle.loop_tree.specs.View.{nodes_of, tree_of}
use Rattle.loop_tree.specs.Walk.{walk_all}
use Rattle.loop_tree.proofs.Weights.{weight, weight_all}
use Rattle.loop_tree.proofs.counting.+counting.Given as goal

abbrev pub decreases-count_nodes : goal.decreases-count_nodes
decreases-count_nodes l = weight_all (nodes_of l.nodes.now) + 1

abbrev pub decreases-count_node : goal.decreases-count_node
decreases-count_node l = weight (tree_of l.node.now)

abbrev pub decreases-count_guard : goal.decreases-count_guard
decreases-count_guard l = weight_all (nodes_of l.body.now) + 2

abbrev pub decreases-count_loop : goal.decreases-count_loop
decreases-count_loop l = weight_all (nodes_of l.body.now) + 3

abbrev pub decreases-count_values : goal.decreases-count_values
decreases-count_values l = weight_all (nodes_of l.body.now) + 2

abbrev pub invariant-count_nodes-loop-node : goal.invariant-count_nodes-loop-node
invariant-count_nodes-loop-node l =
    CanWalk (nodes_of (drop l.node-index l.nodes)) l.params (values_in l.outer)
    × ((vs : List ℤ) → AreWithin l.inner (values_in l.round) vs
    → l.count + length (walk_all (nodes_of (drop l.node-index l.nodes)) l.params vs)
    ≡ length (walk_all (nodes_of l.nodes) l.params vs))
