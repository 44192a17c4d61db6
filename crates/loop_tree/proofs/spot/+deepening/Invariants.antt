use Rattle.scop_syntax.proofs.Common.{◌≡◌, ◌+◌, ◌-◌, ◌^◌, ◌≤◌, drop, max, min}
use Rattle.loop_tree.specs.Spot.{deep_all}
use Rattle.loop_tree.specs.View.{nodes_of, tree_of}
use Rattle.loop_tree.proofs.Weights.{weight, weight_all}
use Rattle.loop_tree.proofs.spot.+deepening.Given as goal

abbrev pub decreases-depth_of : goal.decreases-depth_of
decreases-depth_of l = weight_all (nodes_of l.nodes.now) + 1

abbrev pub decreases-depth_in : goal.decreases-depth_in
decreases-depth_in l = weight (tree_of l.node.now)

abbrev pub invariant-depth_of-loop-node : goal.invariant-depth_of-loop-node
invariant-depth_of-loop-node l =
    (1 ≤ l.depth) × (l.depth ≤ 2 ^ 64 - 1)
    × (min (max l.depth (deep_all (nodes_of (drop l.node-index l.nodes)))) (2 ^ 64 - 1)
    ≡ min (deep_all (nodes_of l.nodes)) (2 ^ 64 - 1))
