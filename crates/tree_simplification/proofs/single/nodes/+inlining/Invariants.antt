use Rattle.tree_simplification.proofs.Common.{◌+◌, ◌≤◌, bounds_in, nodes_of, tree_of, weight, weight_all}
use Rattle.tree_simplification.proofs.Nodes.{HaveGone}
use Rattle.tree_simplification.proofs.Strides.{Unrolls}
use Rattle.tree_simplification.proofs.single.nodes.+inlining.Given as goal

abbrev pub decreases-inline_nodes : goal.decreases-inline_nodes
decreases-inline_nodes l = weight_all (nodes_of l.nodes.now) + 1

abbrev pub decreases-inline_node : goal.decreases-inline_node
decreases-inline_node l = weight (tree_of l.node.now)

abbrev pub decreases-inline_loop : goal.decreases-inline_loop
decreases-inline_loop l = weight_all (nodes_of l.body.now) + 5

abbrev pub decreases-stay_loop : goal.decreases-stay_loop
decreases-stay_loop l = weight_all (nodes_of l.body.now) + 4

abbrev pub decreases-keep_loop : goal.decreases-keep_loop
decreases-keep_loop l = weight_all (nodes_of l.body.now) + 3

abbrev pub decreases-stride_loop : goal.decreases-stride_loop
decreases-stride_loop l = weight_all (nodes_of l.body.now) + 3

abbrev pub decreases-inline_at : goal.decreases-inline_at
decreases-inline_at l = weight_all (nodes_of l.body.now) + 2

abbrev pub decreases-inline_guard : goal.decreases-inline_guard
decreases-inline_guard l = weight_all (nodes_of l.body.now) + 3

abbrev pub invariant-inline_nodes-loop-node : goal.invariant-inline_nodes-loop-node
invariant-inline_nodes-loop-node l =
    HaveGone l.place.parameters l.place.kept l.place.loops.items l.nodes l.node-index (nodes_of l.fn.out.items)
    (nodes_of l.out.items)

abbrev pub invariant-stride_loop-loop-at : goal.invariant-stride_loop-loop-at
invariant-stride_loop-loop-at l =
    (l.at ≤ l.turns)
    × Unrolls l.place.parameters l.place.kept l.place.loops.items (bounds_in l.head.lower) (bounds_in l.head.upper)
    (nodes_of l.body) l.turns l.at (nodes_of l.nodes.items)
