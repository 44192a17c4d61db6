use Rattle.scop_syntax.proofs.Common.{rules, ◌≡◌, ◌∙◌, ap, sym, arith, FitsSigned, ◌≤ℤ◌, w128, ints, to_z-of_z}
use Rattle.loop_tree.specs.Tree.{Trees, loop}
use Rattle.loop_tree.specs.View.{bounds_in, nodes_of, tree_of}
use Rattle.loop_tree.proofs.Views.{tree_loop}
use Rattle.loop_tree.proofs.VisitPlaces.{within_loop}
use Rattle.loop_tree.proofs.near.body_at.Goals as goal

pub returns-in-Loop : goal.returns-in-Loop
returns-in-Loop c =
    let head = c.in-Loop.field-0 in
    let lo = bounds_in head.lower in
    let up = bounds_in head.upper in
    let m = c.args.mark.now in
    let body = nodes_of c.deref.result.now in
    let loop_is : tree_of c.index-nodes-mark.result ≡ loop head.parallel lo up body =
    (ap tree_of c.in-Loop.is ∙ tree_loop head c.in-Loop.body)
    ∙ ap (λ (ts : Trees). loop head.parallel lo up ts) (sym (ap nodes_of c.deref.ensures.value)) in
    let fits : FitsSigned w128 m.value = search rules in
    let fits_last : FitsSigned w128 m.last = search rules in
    let v_is = to_z-of_z w128 m.value fits in
    let last_is = to_z-of_z w128 m.last fits_last in
    let inside : m.value ≤ℤ m.last = grind (arith, ints, c.if-mark.false, v_is, last_is) in
    within_loop c.args.nodes.now m.place c.index-nodes-mark.result m.begun m.value m.last head.parallel lo up body
    c.index-nodes-mark.is c.if-nodes-mark.false loop_is c.if-not-mark.false inside
