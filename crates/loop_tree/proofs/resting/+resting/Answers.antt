use Rattle.scop_syntax.proofs.Common.{rules, ◌≡◌, ◌∙◌, ◌+◌, ◌<◌, ℤ, pos, List, ◌++◌, ◌∷◌, [], length, get_or, ap, subst}
use Rattle.scop_syntax.proofs.Common.{sym, arith, to_z, of_z, ◌+ℤ◌, ◌≤ℤ◌, ◌<ℤ◌, FitsSigned, w128, ints, to_z-of_z}
use Rattle.scop_syntax.proofs.Common.{Instance}
use Rattle.loop_tree.specs.steps.Chain.{values_in}
use Rattle.loop_tree.specs.Conditions.{CanWalk}
use Rattle.loop_tree.specs.Spot.{IsAt, IsWithin, rest_in, rest_of}
use Rattle.loop_tree.specs.SpotView.{marks_of}
use Rattle.loop_tree.specs.Tree.{Tree, Trees, loop, more, none}
use Rattle.loop_tree.specs.View.{bounds_in, nodes_of, tree_of}
use Rattle.loop_tree.specs.declared.tree.Node.{Node}
use Rattle.loop_tree.proofs.VisitRests.{can_behind, can_turns, rest_begun_at, rest_fresh_at, rest_turns}
use Rattle.loop_tree.proofs.VisitRests.{rest_turn_last, shown_nothing, shown_then, within_at}
use Rattle.loop_tree.proofs.Views.{tree_loop}
use Rattle.loop_tree.proofs.VisitPlaces.{can_node, rest_end}
use Rattle.loop_tree.proofs.WalkSteps.{shown_by}
use Rattle.loop_tree.proofs.Weights.{node_weight, weight, weight_all}
use Rattle.loop_tree.proofs.resting.+resting.Goals as goal

pub rest_at-walk_nodes-requires : goal.rest_at-walk_nodes-requires
rest_at-walk_nodes-requires g t c =
    let params = c.args.params.now in
    let outer = values_in c.args.outer.now in
    subst (λ (ns : List Node). CanWalk (nodes_of ns) params outer) (sym c.nodes_from.ensures)
    (can_behind c.args.nodes.now c.args.mark.now.place params outer c.requires.walk)

pub rest_at-returns-then-not-mark : goal.rest_at-returns-then-not-mark
rest_at-returns-then-not-mark g t c = λ l s.
    let m = c.args.mark.now in
    let params = c.args.params.now in
    let outer = values_in c.args.outer.now in
    let shown = ap (λ (ns : List Node). shown_by ns params outer) c.nodes_from.ensures
    ∙ sym (rest_fresh_at c.args.nodes.now m.place m.begun m.value m.last (marks_of c.args.deeper.now) params outer
    c.if-not-mark.true) in
    subst (λ (is : List Instance). g.V.Visitor.stands c.walk_nodes.new.visitor (l ++ is)) shown
    (c.walk_nodes.ensures l s)

pub rest_at-returns-then-nodes-mark : goal.rest_at-returns-then-nodes-mark
rest_at-returns-then-nodes-mark g t c = λ l s.
    let nodes = c.args.nodes.now in
    let m = c.args.mark.now in
    let ms = marks_of c.args.deeper.now in
    let params = c.args.params.now in
    let outer = values_in c.args.outer.now in
    shown_nothing (g.V.Visitor.stands c.args.visitor.now) l _
    (rest_end nodes m.place m.begun m.value m.last ms params outer c.if-nodes-mark.true) s

pub rest_at-rest_node-requires : goal.rest_at-rest_node-requires
rest_at-rest_node-requires g t c κs within_it =
    let nodes = c.args.nodes.now in
    let m = c.args.mark.now in
    let ms = marks_of c.args.deeper.now in
    let params = c.args.params.now in
    let outer = values_in c.args.outer.now in
    let node = c.index-nodes-mark.result in
    let found : node ≡ get_or nodes m.place node = c.index-nodes-mark.is in
    let here : m.place < length nodes = c.if-nodes-mark.false in
    let can : CanWalk (more (tree_of node) none) params outer =
    can_node nodes m.place node params outer found here c.requires.walk in
    let within : IsWithin (tree_of node) m.value m.last ms params outer =
    within_at nodes m.place node m.begun m.value m.last ms params outer found here c.if-not-mark.false c.requires.at in
    let heavy = node_weight nodes m.place node found here in
    let less : weight (tree_of node) < weight_all (nodes_of nodes) + 1 = omega arith in
    search rules

pub rest_at-walk_nodes-requires-2 : goal.rest_at-walk_nodes-requires-2
rest_at-walk_nodes-requires-2 g t c =
    let params = c.args.params.now in
    let outer = values_in c.args.outer.now in
    subst (λ (ns : List Node). CanWalk (nodes_of ns) params outer) (sym c.nodes_from-2.ensures)
    (can_behind c.args.nodes.now (c.args.mark.now.place + 1) params outer c.requires.walk)

pub rest_at-returns : goal.rest_at-returns
rest_at-returns g t c = λ l s.
    let nodes = c.args.nodes.now in
    let m = c.args.mark.now in
    let ms = marks_of c.args.deeper.now in
    let params = c.args.params.now in
    let outer = values_in c.args.outer.now in
    let node = c.index-nodes-mark.result in
    let first = rest_in (tree_of node) m.value ms params outer in
    let whole = rest_begun_at nodes m.place node m.begun m.value m.last ms params outer c.index-nodes-mark.is
    c.if-nodes-mark.false c.if-not-mark.false
    ∙ ap (λ (ns : List Node). first ++ shown_by ns params outer) (sym c.nodes_from-2.ensures) in
    shown_then (g.V.Visitor.stands c.walk_nodes-2.new.visitor) l first _ _ whole
    (c.walk_nodes-2.ensures (l ++ first) (c.rest_node.ensures l s))

pub rest_loop-walk_values-requires : goal.rest_loop-walk_values-requires
rest_loop-walk_values-requires g t c = λ y from to.
    let m = c.args.mark.now in
    let fits : FitsSigned w128 m.value = search rules in
    let fits_last : FitsSigned w128 m.last = search rules in
    let v = to_z w128 (of_z w128 m.value) in
    let v_is : v ≡ m.value = to_z-of_z w128 m.value fits in
    let last_is = to_z-of_z w128 m.last fits_last in
    let less : m.value <ℤ m.last = grind (arith, ints, c.if-mark-2.true, v_is, last_is) in
    let up : FitsSigned w128 (v +ℤ pos 1) = omega (arith, ints, v_is, less, fits_last, fits) in
    let n_is = to_z-of_z w128 (v +ℤ pos 1) up in
    c.requires.walk y (omega (arith, ints, n_is, v_is, from)) (subst (λ (z : ℤ). y ≤ℤ z) last_is to)

pub rest_loop-returns-then-mark-2 : goal.rest_loop-returns-then-mark-2
rest_loop-returns-then-mark-2 g t c = λ l s.
    let body = nodes_of c.args.body.now in
    let m = c.args.mark.now in
    let ms = marks_of c.args.deeper.now in
    let params = c.args.params.now in
    let outer = values_in c.args.outer.now in
    let fits : FitsSigned w128 m.value = search rules in
    let fits_last : FitsSigned w128 m.last = search rules in
    let v = to_z w128 (of_z w128 m.value) in
    let v_is : v ≡ m.value = to_z-of_z w128 m.value fits in
    let last_is = to_z-of_z w128 m.last fits_last in
    let less : m.value <ℤ m.last = grind (arith, ints, c.if-mark-2.true, v_is, last_is) in
    let up : FitsSigned w128 (v +ℤ pos 1) = omega (arith, ints, v_is, less, fits_last, fits) in
    let n = to_z w128 (of_z w128 (v +ℤ pos 1)) in
    let n_is : n ≡ v +ℤ pos 1 = to_z-of_z w128 (v +ℤ pos 1) up in
    let next : n ≡ m.value +ℤ pos 1 = n_is ∙ ap (λ (x : ℤ). x +ℤ pos 1) v_is in
    let first = rest_of body ms params (outer ++ v ∷ []) in
    shown_then (g.V.Visitor.stands c.walk_values.new.visitor) l first _ _
    (rest_turns body ms m.value m.last v n (to_z w128 (of_z w128 m.last)) params outer v_is next last_is
    (omega (arith, ints, less))) (c.walk_values.ensures (l ++ first) (c.rest_turn.ensures l s))

pub rest_loop-returns-else-mark-2 : goal.rest_loop-returns-else-mark-2
rest_loop-returns-else-mark-2 g t c = λ l s.
    let body = nodes_of c.args.body.now in
    let m = c.args.mark.now in
    let ms = marks_of c.args.deeper.now in
    let params = c.args.params.now in
    let outer = values_in c.args.outer.now in
    let fits : FitsSigned w128 m.value = search rules in
    let fits_last : FitsSigned w128 m.last = search rules in
    let v_is = to_z-of_z w128 m.value fits in
    let last_is = to_z-of_z w128 m.last fits_last in
    let here : m.value ≤ℤ m.last = grind (arith, ints, c.if-mark.false, v_is, last_is) in
    let end : m.last ≤ℤ m.value = grind (arith, ints, c.if-mark-2.false, v_is, last_is) in
    subst (λ (is : List Instance). g.V.Visitor.stands c.rest_turn.new.visitor (l ++ is))
    (rest_turn_last body ms m.value m.last (to_z w128 (of_z w128 m.value)) params outer v_is here end)
    (c.rest_turn.ensures l s)

pub rest_node-rest_loop-requires : goal.rest_node-rest_loop-requires
rest_node-rest_loop-requires g t c κs within_it =
    let params = c.args.params.now in
    let outer = values_in c.args.outer.now in
    let m = c.args.mark.now in
    let ms = marks_of c.args.deeper.now in
    let head = c.in-Loop.field-0 in
    let lo = bounds_in head.lower in
    let up = bounds_in head.upper in
    let body = nodes_of c.deref.result.now in
    let body_is = ap nodes_of c.deref.ensures.value in
    let t_is : tree_of c.args.node.now ≡ loop head.parallel lo up (nodes_of c.in-Loop.body.items) =
    ap tree_of c.in-Loop.is ∙ tree_loop head c.in-Loop.body in
    let loop_is : tree_of c.args.node.now ≡ loop head.parallel lo up body =
    t_is ∙ ap (λ (ts : Trees). loop head.parallel lo up ts) (sym body_is) in
    let can : CanWalk (more (loop head.parallel lo up body) none) params outer =
    subst (λ (u : Tree). CanWalk (more u none) params outer) loop_is c.requires.walk in
    let within : IsWithin (loop head.parallel lo up body) m.value m.last ms params outer =
    subst (λ (u : Tree). IsWithin u m.value m.last ms params outer) loop_is c.requires.within in
    let each : (y : ℤ) → m.value ≤ℤ y → y ≤ℤ m.last → CanWalk body params (outer ++ y ∷ []) =
    can_turns head.parallel lo up body m.value m.last ms params outer can within in
    let at : m.value ≤ℤ m.last → IsAt body ms params (outer ++ m.value ∷ []) = within.2 in
    let w = ap weight t_is in
    let e = ap weight_all body_is in
    let less : weight_all body + 4 < weight (tree_of c.args.node.now) = omega (arith, w, e) in
    search rules
