use Rattle.scop_syntax.proofs.Common.{rules, ◌≡◌, ◌∙◌, ◌+◌, ◌<◌, ◌++◌, ◌∷◌, [], true, ap, subst, sym, arith, FitsSigned}
use Rattle.scop_syntax.proofs.Common.{◌≤ℤ◌, w128, ints, to_z-of_z}
use Rattle.loop_tree.specs.Spot.{IsAt, mark as marked_at, rest_of}
use Rattle.loop_tree.specs.SpotView.{marks_of}
use Rattle.loop_tree.specs.Tree.{Tree, Trees, loop, more, none}
use Rattle.loop_tree.specs.View.{bounds_in, nodes_of, tree_of}
use Rattle.loop_tree.proofs.Views.{tree_loop}
use Rattle.loop_tree.proofs.VisitPlaces.{ended_at, loop_ended}
use Rattle.loop_tree.proofs.Weights.{node_weight, weight, weight_all}
use Rattle.loop_tree.proofs.ending.+ending.Goals as goal

pub ends_at-node_ends-requires : goal.ends_at-node_ends-requires
ends_at-node_ends-requires t c =
    let nodes = c.args.nodes.now in
    let node = c.index-nodes-mark.result in
    let heavy = node_weight nodes c.args.mark.now.place node c.index-nodes-mark.is c.if-nodes-mark.false in
    let less : weight (tree_of node) < weight_all (nodes_of nodes) + 1 = omega arith in
    search rules

pub ends_at-returns : goal.ends_at-returns
ends_at-returns t c = λ ends params outer at.
    let m = c.args.mark.now in
    ended_at c.args.nodes.now m.place c.index-nodes-mark.result m.begun m.value m.last (marks_of c.args.deeper.now)
    params outer c.index-nodes-mark.is c.if-nodes-mark.false c.if-mark-nodes.false c.if-not-mark.false
    (c.node_ends.ensures ends params outer) at

pub node_ends-is_ended-requires : goal.node_ends-is_ended-requires
node_ends-is_ended-requires t c =
    let t_is = ap tree_of c.in-Loop.is ∙ tree_loop c.in-Loop.field-0 c.in-Loop.body in
    let body_is = ap nodes_of c.deref.ensures.value in
    let w = ap weight t_is in
    let e = ap weight_all body_is in
    let less : weight_all (nodes_of c.deref.result.now) + 2 < weight (tree_of c.args.node.now) =
    omega (arith, w, e) in
    search rules

pub node_ends-returns-else-mark : goal.node_ends-returns-else-mark
node_ends-returns-else-mark t c = λ ends params outer at.
    let head = c.in-Loop.field-0 in
    let lo = bounds_in head.lower in
    let up = bounds_in head.upper in
    let m = c.args.mark.now in
    let ms = marks_of c.args.deeper.now in
    let body = nodes_of c.deref.result.now in
    let loop_is : tree_of c.args.node.now ≡ loop head.parallel lo up body =
    (ap tree_of c.in-Loop.is ∙ tree_loop head c.in-Loop.body)
    ∙ ap (λ (ts : Trees). loop head.parallel lo up ts) (sym (ap nodes_of c.deref.ensures.value)) in
    let fits : FitsSigned w128 m.value = search rules in
    let fits_last : FitsSigned w128 m.last = search rules in
    let v_is = to_z-of_z w128 m.value fits in
    let last_is = to_z-of_z w128 m.last fits_last in
    let past : m.last ≤ℤ m.value = grind (arith, ints, c.if-mark.false, v_is, last_is) in
    subst (λ (u : Tree). rest_of (more u none) (marked_at 0 true m.value m.last ∷ ms) params outer ≡ []) (sym loop_is)
    (loop_ended head.parallel lo up body m.value m.last ms params outer past
    (c.is_ended.ensures ends params (outer ++ m.value ∷ []))
    (subst (λ (u : Tree). IsAt (more u none) (marked_at 0 true m.value m.last ∷ ms) params outer) loop_is at))
