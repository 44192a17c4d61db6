use Rattle.scop_syntax.proofs.Common.{◌≡◌, ◌+◌, ◌<◌, [], List, drop, ap, rules, arith, drop_of_length-le}
use Rattle.loop_tree.specs.Spot.{deep_all}
use Rattle.loop_tree.specs.View.{nodes_of, tree_of}
use Rattle.loop_tree.specs.declared.tree.Node.{Node}
use Rattle.loop_tree.proofs.VisitPlaces.{deep_some}
use Rattle.loop_tree.proofs.Weights.{node_here, node_weight, weight, weight_all}
use Rattle.loop_tree.proofs.spot.+deepening.Goals as goal

pub depth_of-depth_in-requires : goal.depth_of-depth_in-requires
depth_of-depth_in-requires t c =
    let l = c.loop-node in
    let nodes = c.args.nodes.now in
    let heavy = node_weight nodes l.node-index c.node-item.result c.node-item.is c.loop-node-test.true in
    let less : weight (tree_of c.node-item.result) < weight_all (nodes_of nodes) + 1 = omega arith in
    search rules

pub depth_of-loop-node-init : goal.depth_of-loop-node-init
depth_of-loop-node-init t c =
    let d = deep_some (nodes_of c.args.nodes.now) in
    (omega arith, omega arith, omega (arith, d))

pub depth_of-loop-node-preserved : goal.depth_of-loop-node-preserved
depth_of-loop-node-preserved t c =
    let l = c.loop-node in
    let here = ap deep_all
    (node_here c.args.nodes.now l.node-index c.node-item.result c.node-item.is c.loop-node-test.true) in
    let so_far = l.invariant.2 in
    let low = l.invariant.0 in
    let high = l.invariant.1 in
    let one = c.depth_in.ensures in
    let sum = c.plus.ensures in
    let most = c.greater-depth.ensures in
    (omega (arith, most, low), omega (arith, most, high, sum), omega (arith, here, so_far, one, sum, most))

pub depth_of-returns : goal.depth_of-returns
depth_of-returns t c =
    let l = c.loop-node in
    let nothing_left : drop l.node-index c.args.nodes.now ≡ [] = drop_of_length-le c.args.nodes.now (omega arith) in
    let none = ap (λ (ns : List Node). deep_all (nodes_of ns)) nothing_left in
    let so_far = l.invariant.2 in
    let low = l.invariant.0 in
    let high = l.invariant.1 in
    omega (arith, none, so_far, low, high)
