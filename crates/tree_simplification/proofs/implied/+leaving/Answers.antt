use Rattle.tree_simplification.proofs.Common.{◌≡◌, ◌+◌, ◌<◌, [], length, map, drop, drop_of_length-le, ap, ◌∙◌, rules}
use Rattle.tree_simplification.proofs.Common.{arith, Bool, IfOk-weaker, loop, more, none, bounds_in, nodes_of, test_of}
use Rattle.tree_simplification.proofs.Common.{tree_of, node_weight, weight, weight_all, tested, context_of, CanTrim}
use Rattle.tree_simplification.proofs.Common.{TrimsTests}
use Rattle.tree_simplification.proofs.Trees.{can_one, guard_dropped, guard_left, leaves_all, leaves_next, loop_dropped}
use Rattle.tree_simplification.proofs.Trees.{loop_left}
use Rattle.tree_simplification.proofs.implied.+leaving.Goals as goal

pub trim_nodes-trim_node-requires : goal.trim_nodes-trim_node-requires
trim_nodes-trim_node-requires t c =
    let l = c.loop-node in
    let nodes = c.args.nodes.now in
    let node = c.node-item.result in
    let can : CanTrim (context_of c.args.context.now) (more (tree_of node) none) =
    can_one (context_of c.args.context.now) nodes l.node-index node c.node-item.is c.loop-node-test.true c.requires in
    let heavy = node_weight nodes l.node-index node c.node-item.is c.loop-node-test.true in
    let less : weight (tree_of node) < weight_all (nodes_of nodes) + 1 = omega arith in
    search rules

pub trim_nodes-loop-node-preserved : goal.trim_nodes-loop-node-preserved
trim_nodes-loop-node-preserved t c =
    let l = c.loop-node in
    leaves_next (context_of c.args.context.now) c.args.nodes.now l.node-index c.node-item.result l.out.items
    c.append.new.nodes.items (nodes_of c.in_ok-trim_node.field-0.items) c.node-item.is c.loop-node-test.true l.invariant
    c.in_ok-trim_node.ensures c.in_ok-append.ensures

pub trim_loop-returns-then-is_empty : goal.trim_loop-returns-then-is_empty
trim_loop-returns-then-is_empty t c =
    let head = c.args.head.now in
    let nodes = c.in_ok-nodes.nodes.items in
    let empty : length nodes ≡ 0 = search rules in
    loop_dropped (context_of c.args.context.now) (context_of c.in_ok-within.within) head.parallel (bounds_in head.lower)
    (bounds_in head.upper) (nodes_of c.args.body.now) nodes c.in_ok-within.ensures empty c.in_ok-nodes.ensures

pub trim_loop-returns : goal.trim_loop-returns
trim_loop-returns t c =
    let old = c.args.head.now in
    let head = c.in_ok-head.head in
    let nodes = nodes_of c.in_ok-nodes.nodes.items in
    IfOk-weaker c.looped.result _ _
    (λ left is. loop_left (context_of c.args.context.now) (context_of c.in_ok-within.within) old.parallel
    (bounds_in old.lower) (bounds_in old.upper) (bounds_in head.lower) (bounds_in head.upper)
    (nodes_of c.args.body.now) nodes (nodes_of left.items) c.in_ok-within.ensures c.in_ok-head.ensures.bounds
    c.in_ok-nodes.ensures
    (is ∙ ap (λ (b : Bool). more (loop b (bounds_in head.lower) (bounds_in head.upper) nodes) none)
    c.in_ok-head.ensures.parallel))
    c.looped.ensures

pub trim_guard-returns-then-is_empty : goal.trim_guard-returns-then-is_empty
trim_guard-returns-then-is_empty t c =
    let tests = map test_of c.args.guard.now.tests.items in
    let nodes = c.in_ok-nodes.nodes.items in
    let empty : length nodes ≡ 0 = search rules in
    let within : context_of c.in_ok-within.within ≡ tested (context_of c.args.context.now) tests = search rules in
    guard_dropped (context_of c.args.context.now) (context_of c.in_ok-within.within) tests (nodes_of c.args.body.now)
    nodes within empty c.in_ok-nodes.ensures

pub trim_guard-returns : goal.trim_guard-returns
trim_guard-returns t c =
    let tests = map test_of c.args.guard.now.tests.items in
    let kept = map test_of c.in_ok-tests.tests.items in
    let nodes = nodes_of c.in_ok-nodes.nodes.items in
    let context = context_of c.args.context.now in
    let within : context_of c.in_ok-within.within ≡ tested context tests = search rules in
    let trims : TrimsTests context tests kept = search rules in
    IfOk-weaker c.guarded.result _ _
    (λ left is. guard_left context (context_of c.in_ok-within.within) tests kept (nodes_of c.args.body.now) nodes
    (nodes_of left.items) within trims c.in_ok-nodes.ensures is)
    c.guarded.ensures

pub trim_nodes-returns : goal.trim_nodes-returns
trim_nodes-returns t c =
    let l = c.loop-node in
    let nothing : drop l.node-index c.args.nodes.now ≡ [] = drop_of_length-le c.args.nodes.now (omega arith) in
    leaves_all (context_of c.args.context.now) c.args.nodes.now l.node-index l.out.items nothing l.invariant
