use Rattle.scop_syntax.proofs.Common.{◌≡◌, ◌+◌, ◌<◌, List, [], drop, ap, rules, arith, drop_of_length-le}
use Rattle.loop_tree.specs.Shape.{inner_guards_all}
use Rattle.loop_tree.specs.Tree.{Trees}
use Rattle.loop_tree.specs.View.{nodes_of, tree_of}
use Rattle.loop_tree.specs.declared.tree.Node.{Node}
use Rattle.loop_tree.proofs.Weights.{node_here, node_weight, weight, weight_all}
use Rattle.loop_tree.proofs.guards.+counting.Goals as goal

pub count_nodes-count_node-requires : goal.count_nodes-count_node-requires
count_nodes-count_node-requires t c =
    let l = c.loop-node in
    let nodes = c.args.nodes.now in
    let heavy = node_weight nodes l.node-index c.node-item.result c.node-item.is c.loop-node-test.true in
    let less : weight (tree_of c.node-item.result) < weight_all (nodes_of nodes) + 1 = omega arith in
    search rules

pub count_nodes-loop-node-preserved : goal.count_nodes-loop-node-preserved
count_nodes-loop-node-preserved t c =
    let l = c.loop-node in
    let here = ap (λ (ts : Trees). inner_guards_all c.args.inside ts)
    (node_here c.args.nodes.now l.node-index c.node-item.result c.node-item.is c.loop-node-test.true) in
    let so_far = l.invariant.1 in
    let one = c.count_node.ensures in
    let sum = c.plus-count.ensures in
    (omega (arith, sum), omega (arith, here, so_far, one, sum))

pub count_nodes-returns : goal.count_nodes-returns
count_nodes-returns t c =
    let l = c.loop-node in
    let nothing_left : drop l.node-index c.args.nodes.now ≡ [] = drop_of_length-le c.args.nodes.now (omega arith) in
    let none = ap (λ (ns : List Node). inner_guards_all c.args.inside (nodes_of ns)) nothing_left in
    let so_far = l.invariant.1 in
    let small = l.invariant.0 in
    omega (arith, none, so_far, small)
