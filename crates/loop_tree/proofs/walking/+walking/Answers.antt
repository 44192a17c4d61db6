use Rattle.scop_syntax.proofs.Common.{◌≡◌, ◌∙◌, ℤ, pos, ◌+◌, ◌<◌, List, [], ◌∷◌, ◌++◌, drop, map, append-nil, Bool}
use Rattle.scop_syntax.proofs.Common.{true, ap, subst, sym, rules, arith, drop_of_length-le, ap₂, to_z, of_z}
use Rattle.scop_syntax.proofs.Common.{if◌then◌else◌, ◌+ℤ◌, ◌≤ℤ◌, ◌<ℤ◌, FitsSigned, w128, ints, to_z-of_z, Instance}
use Rattle.loop_tree.specs.steps.Chain.{values_in}
use Rattle.loop_tree.specs.Conditions.{CanWalk}
use Rattle.loop_tree.specs.Tree.{Trees, more, none}
use Rattle.loop_tree.specs.Tree.{Tree, guard, loop}
use Rattle.loop_tree.specs.View.{bounds_in, nodes_of, test_of, tree_of}
use Rattle.loop_tree.specs.Walk.{all_hold, lower, upper, given, walk, walk_all}
use Rattle.loop_tree.proofs.Views.{tree_guard, tree_instance, tree_loop}
use Rattle.loop_tree.proofs.Chains.{values_at}
use Rattle.loop_tree.specs.declared.outer.Outer.TheVariants.{Within}
use Rattle.loop_tree.specs.declared.tree.Node.{Node}
use Rattle.loop_tree.specs.declared.tree.Test.{Test as CodeTest}
use Rattle.loop_tree.proofs.WalkSteps.{shown_by, shown_here, so_far_ends, so_far_step, walk_first, walk_rest, SoFar}
use Rattle.loop_tree.proofs.WalkSteps.{leaf_held, loop_shown, shown_none, shown_turn, turns_shown, walk_guarded}
use Rattle.loop_tree.proofs.WalkSteps.{walk_turn}
use Rattle.loop_tree.proofs.Weights.{node_here, node_weight, weight, weight_all}
use Rattle.loop_tree.proofs.walking.+walking.Goals as goal

pub walk_nodes-walk_node-requires : goal.walk_nodes-walk_node-requires
walk_nodes-walk_node-requires g t c =
    let l = c.loop-node in
    let nodes = c.args.nodes.now in
    let node = c.node-item.result in
    let params = c.args.params.now in
    let outer = values_in c.args.outer.now in
    let here = node_here nodes l.node-index node c.node-item.is c.loop-node-test.true in
    let can : CanWalk (more (tree_of node) none) params outer =
    walk_first (tree_of node) (nodes_of (drop (l.node-index + 1) nodes)) params outer
    (subst (λ (ts : Trees). CanWalk ts params outer) here l.invariant.0) in
    let heavy = node_weight nodes l.node-index node c.node-item.is c.loop-node-test.true in
    let less : weight (tree_of node) < weight_all (nodes_of nodes) + 1 = omega arith in
    search rules

pub walk_nodes-loop-node-preserved : goal.walk_nodes-loop-node-preserved
walk_nodes-loop-node-preserved g t c =
    let l = c.loop-node in
    let nodes = c.args.nodes.now in
    let node = c.node-item.result in
    let params = c.args.params.now in
    let outer = values_in c.args.outer.now in
    let here = node_here nodes l.node-index node c.node-item.is c.loop-node-test.true in (
      walk_rest (tree_of node) (nodes_of (drop (l.node-index + 1) nodes)) params outer
          (subst (λ (ts : Trees). CanWalk ts params outer) here l.invariant.0),
      omega arith,
      so_far_step (g.V.Visitor.stands c.args.visitor.now) (g.V.Visitor.stands l.visitor)
          (g.V.Visitor.stands c.walk_node.new.visitor) (shown_by (drop l.node-index nodes) params outer) _
          (shown_by (drop (l.node-index + 1) nodes) params outer) (shown_by nodes params outer) l.invariant.2
          (shown_here nodes l.node-index node params outer c.node-item.is c.loop-node-test.true) c.walk_node.ensures,
    )

pub walk_nodes-returns : goal.walk_nodes-returns
walk_nodes-returns g t c =
    let l = c.loop-node in
    let nodes = c.args.nodes.now in
    let params = c.args.params.now in
    let outer = values_in c.args.outer.now in
    so_far_ends (g.V.Visitor.stands c.args.visitor.now) (g.V.Visitor.stands l.visitor)
    (shown_by (drop l.node-index nodes) params outer) (shown_by nodes params outer) l.invariant.2
    (ap (λ (ns : List Node). shown_by ns params outer) (drop_of_length-le nodes (omega arith)))

pub walk_node-instance_at-requires-clause-held : goal.walk_node-instance_at-requires-clause-held
walk_node-instance_at-requires-clause-held g t c =
    let leaf = c.in-Instance.leaf in
    let params = c.args.params.now in
    let outer = values_in c.args.outer.now in
    let is = ap tree_of c.in-Instance.is ∙ tree_instance leaf in
    leaf_held leaf.statement leaf.turns.items params outer
    (subst (λ (u : Tree). CanWalk (more u none) params outer) is c.requires)

pub walk_loop-walk_values-requires : goal.walk_loop-walk_values-requires
walk_loop-walk_values-requires g t c κs within =
    let head = c.args.head.now in
    let params = c.args.params.now in
    let outer = values_in c.args.outer.now in
    let point = outer ++ params in
    let body = nodes_of c.args.body.now in
    let fits_low : FitsSigned w128 c.range_at-range.result.first = search rules in
    let fits_high : FitsSigned w128 c.range_at-range.result.last = search rules in
    let first = to_z w128 (of_z w128 c.range_at-range.result.first) in
    let last = to_z w128 (of_z w128 c.range_at-range.result.last) in
    let low_is : first ≡ lower (bounds_in head.lower) point =
    to_z-of_z w128 c.range_at-range.result.first fits_low ∙ c.range_at-range.ensures.first in
    let high_is : last ≡ upper (bounds_in head.upper) point =
    to_z-of_z w128 c.range_at-range.result.last fits_high ∙ c.range_at-range.ensures.last in
    let each : (x : ℤ) → first ≤ℤ x → x ≤ℤ last → CanWalk body params (outer ++ x ∷ []) =
    λ x a b.
    walk_turn head.parallel (bounds_in head.lower) (bounds_in head.upper) body params outer x c.requires
    (subst (λ (z : ℤ). z ≤ℤ x) low_is a) (subst (λ (z : ℤ). x ≤ℤ z) high_is b) in
    let less : weight_all body + 4 < weight_all body + 5 = omega arith in
    search rules

pub walk_loop-returns : goal.walk_loop-returns
walk_loop-returns g t c =
    let head = c.args.head.now in
    let params = c.args.params.now in
    let outer = values_in c.args.outer.now in
    let point = outer ++ params in
    let body = nodes_of c.args.body.now in
    let fits_low : FitsSigned w128 c.range_at-range.result.first = search rules in
    let fits_high : FitsSigned w128 c.range_at-range.result.last = search rules in
    let first = to_z w128 (of_z w128 c.range_at-range.result.first) in
    let last = to_z w128 (of_z w128 c.range_at-range.result.last) in
    let low_is : first ≡ lower (bounds_in head.lower) point =
    to_z-of_z w128 c.range_at-range.result.first fits_low ∙ c.range_at-range.ensures.first in
    let high_is : last ≡ upper (bounds_in head.upper) point =
    to_z-of_z w128 c.range_at-range.result.last fits_high ∙ c.range_at-range.ensures.last in
    let shown = ap₂ (λ (a b : ℤ). turns_shown body params outer a b) low_is high_is
    ∙ sym (loop_shown head.parallel (bounds_in head.lower) (bounds_in head.upper) body params outer) in
    λ l s. subst (λ (is : List Instance). g.V.Visitor.stands c.walk_values.new.visitor (l ++ is)) shown
    (c.walk_values.ensures l s)

pub walk_values-returns : goal.walk_values-returns
walk_values-returns g t c = λ l s.
    let body = nodes_of c.args.body.now in
    let params = c.args.params.now in
    let outer = values_in c.args.outer.now in
    let start = c.skip_values-start.result in
    let fits : FitsSigned w128 start = search rules in
    let last = to_z w128 (of_z w128 c.args.last) in
    let start_is = to_z-of_z w128 start fits in
    let first_is = to_z-of_z w128 c.args.first c.ranges.first in
    let last_is = to_z-of_z w128 c.args.last c.ranges.last in
    let r = c.skip_values-start.ensures.shown l s in
    let all : r.0 ++ turns_shown body params outer (to_z w128 (of_z w128 start)) last
    ≡ l ++ turns_shown body params outer c.args.first c.args.last =
    ap (λ (z : ℤ). r.0 ++ turns_shown body params outer z last) start_is
    ∙ (r.1 ∙ ap₂ (λ (a b : ℤ). l ++ turns_shown body params outer a b) first_is last_is) in
    subst (λ (is : List Instance). g.V.Visitor.stands c.walk_each.new.visitor is) all (c.walk_each.ensures r.0 r.2)

pub walk_each-loop-value-preserved : goal.walk_each-loop-value-preserved
walk_each-loop-value-preserved g t c =
    let params = c.args.params.now in
    let outer = values_in c.args.outer.now in
    let body = nodes_of c.args.body.now in
    let v = to_z w128 c.loop-value.value-bits in
    let first = to_z w128 (of_z w128 c.args.first) in
    let last = to_z w128 (of_z w128 c.args.last) in
    let first_is = to_z-of_z w128 c.args.first c.ranges.first in
    let last_is = to_z-of_z w128 c.args.last c.ranges.last in
    let low : first ≤ℤ v = c.loop-value.invariant.0 in
    let less : v <ℤ c.args.last = grind (arith, ints, c.loop-value-test.true) in
    let fits_first = c.ranges.first in
    let fits_last = c.ranges.last in
    let up : FitsSigned w128 (v +ℤ pos 1) = omega (arith, ints) in
    let next_is = to_z-of_z w128 (v +ℤ pos 1) up in
    let here : v ≤ℤ last = omega (arith, ints) in
    let whole = turns_shown body params outer first last in
    let step = so_far_step (g.V.Visitor.stands c.args.visitor.now) (g.V.Visitor.stands c.loop-value.visitor)
    (g.V.Visitor.stands c.walk_turn.new.visitor) (turns_shown body params outer v last)
    (map given (walk_all body params (outer ++ v ∷ []))) (turns_shown body params outer (v +ℤ pos 1) last) whole
    c.loop-value.invariant.1 (shown_turn body params outer v last here) c.walk_turn.ensures in
    let higher : first ≤ℤ (v +ℤ pos 1) = omega (arith, ints) in (
      subst (λ (n : ℤ). first ≤ℤ n) (sym next_is) higher,
      subst (λ (n : ℤ). SoFar (g.V.Visitor.stands c.args.visitor.now) (g.V.Visitor.stands c.walk_turn.new.visitor)
          (turns_shown body params outer n last) whole) (sym next_is) step,
    )

pub walk_each-returns-then-value-last : goal.walk_each-returns-then-value-last
walk_each-returns-then-value-last g t c =
    let params = c.args.params.now in
    let outer = values_in c.args.outer.now in
    let body = nodes_of c.args.body.now in
    let v = to_z w128 c.loop-value.value-bits in
    let first = to_z w128 (of_z w128 c.args.first) in
    let last = to_z w128 (of_z w128 c.args.last) in
    let first_is = to_z-of_z w128 c.args.first c.ranges.first in
    let last_is = to_z-of_z w128 c.args.last c.ranges.last in
    let same : v ≡ c.args.last = grind (arith, ints, c.if-value-last.true) in
    let here : v ≤ℤ last = omega (arith, ints) in
    let past : last <ℤ (v +ℤ pos 1) = omega (arith, ints) in
    let new = g.V.Visitor.stands c.walk_turn-then-value-last.new.visitor in
    let whole = turns_shown body params outer first last in
    let step = so_far_step (g.V.Visitor.stands c.args.visitor.now) (g.V.Visitor.stands c.loop-value.visitor) new
    (turns_shown body params outer v last) (map given (walk_all body params (outer ++ v ∷ [])))
    (turns_shown body params outer (v +ℤ pos 1) last) whole
    c.loop-value.invariant.1 (shown_turn body params outer v last here) c.walk_turn-then-value-last.ensures in
    let end = so_far_ends (g.V.Visitor.stands c.args.visitor.now) new (turns_shown body params outer (v +ℤ pos 1) last)
    whole step (shown_none body params outer (v +ℤ pos 1) last past) in
    λ l s. subst (λ (is : List Instance). new (l ++ is))
    (ap₂ (λ (a b : ℤ). turns_shown body params outer a b) first_is last_is) (end l s)

pub walk_each-returns-else-value-last : goal.walk_each-returns-else-value-last
walk_each-returns-else-value-last g t c =
    let params = c.args.params.now in
    let outer = values_in c.args.outer.now in
    let body = nodes_of c.args.body.now in
    let v = to_z w128 c.loop-value.value-bits in
    let first = to_z w128 (of_z w128 c.args.first) in
    let last = to_z w128 (of_z w128 c.args.last) in
    let first_is = to_z-of_z w128 c.args.first c.ranges.first in
    let last_is = to_z-of_z w128 c.args.last c.ranges.last in
    let beyond : c.args.last <ℤ v = grind (arith, ints, c.loop-value-test.false, c.if-value-last.false) in
    let past : last <ℤ v = omega (arith, ints) in
    let now = g.V.Visitor.stands c.loop-value.visitor in
    let end = so_far_ends (g.V.Visitor.stands c.args.visitor.now) now (turns_shown body params outer v last)
    (turns_shown body params outer first last) c.loop-value.invariant.1 (shown_none body params outer v last past) in
    λ l s. subst (λ (is : List Instance). now (l ++ is))
    (ap₂ (λ (a b : ℤ). turns_shown body params outer a b) first_is last_is) (end l s)

pub walk_node-walk_loop-requires : goal.walk_node-walk_loop-requires
walk_node-walk_loop-requires g t c κs within =
    let params = c.args.params.now in
    let outer = values_in c.args.outer.now in
    let head = c.in-Loop.head in
    let lo = bounds_in head.lower in
    let up = bounds_in head.upper in
    let t_is : tree_of c.args.node.now ≡ loop head.parallel lo up (nodes_of c.in-Loop.body.items) =
    ap tree_of c.in-Loop.is ∙ tree_loop head c.in-Loop.body in
    let body_is = ap nodes_of c.deref.ensures.value in
    let loop_is : tree_of c.args.node.now ≡ loop head.parallel lo up (nodes_of c.deref.result.now) =
    t_is ∙ ap (λ (ts : Trees). loop head.parallel lo up ts) (sym body_is) in
    let can : CanWalk (more (loop head.parallel lo up (nodes_of c.deref.result.now)) none) params outer =
    subst (λ (u : Tree). CanWalk (more u none) params outer) loop_is c.requires in
    let w = ap weight t_is in
    let e = ap weight_all body_is in
    let less : weight_all (nodes_of c.deref.result.now) + 5 < weight (tree_of c.args.node.now) =
    omega (arith, w, e) in
    search rules

pub walk_node-walk_nodes-requires : goal.walk_node-walk_nodes-requires
walk_node-walk_nodes-requires g t c κs within =
    let params = c.args.params.now in
    let outer = values_in c.args.outer.now in
    let point = outer ++ params in
    let tests = map test_of c.in-Guard.guard.tests.items in
    let body = nodes_of c.in-Guard.body.items in
    let t_is : tree_of c.args.node.now ≡ guard tests body =
    ap tree_of c.in-Guard.is ∙ tree_guard c.in-Guard.guard c.in-Guard.body in
    let told = c.all_hold.ensures
    ∙ ap (λ (ts : List CodeTest). all_hold (map test_of ts) point) c.deref-in-Guard.ensures.value in
    let holds : all_hold tests point ≡ true = sym told ∙ c.if-all_hold.true in
    let body_is : nodes_of c.deref-then-all_hold.result.now ≡ body =
    ap nodes_of c.deref-then-all_hold.ensures.value in
    let can : CanWalk (nodes_of c.deref-then-all_hold.result.now) params outer =
    subst (λ (ts : Trees). CanWalk ts params outer) (sym body_is)
    (walk_guarded tests body params outer (subst (λ (u : Tree). CanWalk (more u none) params outer) t_is c.requires)
    holds) in
    let w = ap weight t_is in
    let e = ap weight_all body_is in
    let less : weight_all (nodes_of c.deref-then-all_hold.result.now) + 1 < weight (tree_of c.args.node.now) =
    omega (arith, w, e) in
    search rules

pub walk_node-returns-in-Loop : goal.walk_node-returns-in-Loop
walk_node-returns-in-Loop g t c =
    let params = c.args.params.now in
    let outer = values_in c.args.outer.now in
    let head = c.in-Loop.head in
    let lo = bounds_in head.lower in
    let up = bounds_in head.upper in
    let t_is : tree_of c.args.node.now ≡ loop head.parallel lo up (nodes_of c.in-Loop.body.items) =
    ap tree_of c.in-Loop.is ∙ tree_loop head c.in-Loop.body in
    let body_is = ap nodes_of c.deref.ensures.value in
    let loop_is : tree_of c.args.node.now ≡ loop head.parallel lo up (nodes_of c.deref.result.now) =
    t_is ∙ ap (λ (ts : Trees). loop head.parallel lo up ts) (sym body_is) in
    λ l s.
    subst (λ (u : Tree). g.V.Visitor.stands c.walk_loop.new.visitor (l ++ map given (walk u params outer)))
    (sym loop_is) (c.walk_loop.ensures l (c.passes_by.ensures.stays c.if-passes_by.false l s))

pub walk_node-returns-then-all_hold : goal.walk_node-returns-then-all_hold
walk_node-returns-then-all_hold g t c =
    let params = c.args.params.now in
    let outer = values_in c.args.outer.now in
    let point = outer ++ params in
    let tests = map test_of c.in-Guard.guard.tests.items in
    let body = nodes_of c.in-Guard.body.items in
    let t_is : tree_of c.args.node.now ≡ guard tests body =
    ap tree_of c.in-Guard.is ∙ tree_guard c.in-Guard.guard c.in-Guard.body in
    let told = c.all_hold.ensures
    ∙ ap (λ (ts : List CodeTest). all_hold (map test_of ts) point) c.deref-in-Guard.ensures.value in
    let shown = ap (λ (ts : Trees). map given (walk_all ts params outer))
    (ap nodes_of c.deref-then-all_hold.ensures.value)
    ∙ (ap (λ (b : Bool). map given (if b then walk_all body params outer else [])) (sym (sym told ∙ c.if-all_hold.true))
    ∙ ap (λ (u : Tree). map given (walk u params outer)) (sym t_is)) in
    λ l s.
    subst (λ (is : List Instance). g.V.Visitor.stands c.walk_nodes.new.visitor (l ++ is)) shown
    (c.walk_nodes.ensures l (c.passes_by.ensures.stays c.if-passes_by.false l s))

pub walk_node-returns-else-all_hold : goal.walk_node-returns-else-all_hold
walk_node-returns-else-all_hold g t c =
    let params = c.args.params.now in
    let outer = values_in c.args.outer.now in
    let point = outer ++ params in
    let tests = map test_of c.in-Guard.guard.tests.items in
    let body = nodes_of c.in-Guard.body.items in
    let t_is : tree_of c.args.node.now ≡ guard tests body =
    ap tree_of c.in-Guard.is ∙ tree_guard c.in-Guard.guard c.in-Guard.body in
    let told = c.all_hold.ensures
    ∙ ap (λ (ts : List CodeTest). all_hold (map test_of ts) point) c.deref-in-Guard.ensures.value in
    let shown = ap (λ (b : Bool). map given (if b then walk_all body params outer else []))
    (sym (sym told ∙ c.if-all_hold.false))
    ∙ ap (λ (u : Tree). map given (walk u params outer)) (sym t_is) in
    λ l s.
    subst (λ (is : List Instance). g.V.Visitor.stands c.passes_by.new.visitor (l ++ is)) shown
    (subst (λ (is : List Instance). g.V.Visitor.stands c.passes_by.new.visitor is) (sym (append-nil l))
    (c.passes_by.ensures.stays c.if-passes_by.false l s))

pub walk_node-returns-else-skips_one : goal.walk_node-returns-else-skips_one
walk_node-returns-else-skips_one g t c =
    let params = c.args.params.now in
    let outer = values_in c.args.outer.now in
    let t_is = ap tree_of c.in-Instance.is ∙ tree_instance c.in-Instance.leaf in
    let shown = ap (λ (i : Instance). i ∷ []) c.instance_at.ensures
    ∙ ap (λ (u : Tree). map given (walk u params outer)) (sym t_is) in
    λ l s.
    subst (λ (is : List Instance). g.V.Visitor.stands c.visit.new.self (l ++ is)) shown
    (c.visit.ensures l
    (c.skips_one.ensures.stays c.if-skips_one.false l (c.passes_by.ensures.stays c.if-passes_by.false l s)))

pub walk_turn-walk_nodes-requires : goal.walk_turn-walk_nodes-requires
walk_turn-walk_nodes-requires g t c κs within =
    let v = to_z w128 (of_z w128 c.args.value) in
    let body = nodes_of c.args.body.now in
    let params = c.args.params.now in
    let inside = values_at c.args.outer c.args.value v (to_z-of_z w128 c.args.value c.ranges.value) in
    let can : CanWalk body params (values_in (Within c.args.outer v)) =
    subst (λ (os : List ℤ). CanWalk body params os) (sym inside) c.requires in
    let less : weight_all body + 1 < weight_all body + 2 = omega arith in
    search rules

pub walk_turn-returns : goal.walk_turn-returns
walk_turn-returns g t c =
    λ l s.
    subst (λ (os : List ℤ). g.V.Visitor.stands c.walk_nodes.new.visitor
    (l ++ map given (walk_all (nodes_of c.args.body.now) c.args.params.now os)))
    (values_at c.args.outer c.args.value (to_z w128 (of_z w128 c.args.value))
    (to_z-of_z w128 c.args.value c.ranges.value)) (c.walk_nodes.ensures l s)
