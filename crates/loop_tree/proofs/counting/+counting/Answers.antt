use Rattle.scop_syntax.proofs.Common.{rules, ◌≡◌, ◌∙◌, ℤ, ◌+◌, ◌*◌, ◌<◌, List, [], ◌∷◌, ◌++◌, drop, length, map}
use Rattle.scop_syntax.proofs.Common.{true, false, ap, ap₂, arith, drop_of_length-le, refl, subst, sym, to_z, of_z}
use Rattle.scop_syntax.proofs.Common.{◌≤ℤ◌, ◌<ℤ◌, ◌-ℤ◌, FitsSigned, w128, ints, to_z-of_z, IfSome_then, most_turns}
use Rattle.loop_tree.specs.steps.Chain.{values_in}
use Rattle.loop_tree.specs.steps.Counting.{AreWithin}
use Rattle.loop_tree.specs.Conditions.{CanWalk}
use Rattle.loop_tree.specs.Tree.{Tree, Trees, guard, loop, more, none}
use Rattle.loop_tree.specs.View.{bounds_in, nodes_of, test_of, tree_of}
use Rattle.loop_tree.specs.Walk.{Visit, between, lower, upper, walk_all}
use Rattle.loop_tree.specs.declared.outer.Outer.TheVariants.{Within}
use Rattle.loop_tree.specs.declared.tree.Node.{Node}
use Rattle.loop_tree.specs.declared.tree.Test.{Test as CodeTest}
use Rattle.loop_tree.proofs.Chains.{values_at}
use Rattle.loop_tree.proofs.FreeCounts.{guard_counts, loop_counts, nodes_step, one_more, values_count}
use Rattle.loop_tree.proofs.Lists.{between_none}
use Rattle.loop_tree.proofs.Views.{tree_guard, tree_loop}
use Rattle.loop_tree.proofs.WalkSteps.{walk_first, walk_guarded, walk_rest, walk_turn}
use Rattle.loop_tree.proofs.Weights.{node_here, node_weight, weight, weight_all}
use Rattle.loop_tree.proofs.counting.+counting.Goals as goal

pub count_nodes-count_node-requires : goal.count_nodes-count_node-requires
count_nodes-count_node-requires t c =
    let l = c.loop-node in
    let nodes = c.args.nodes.now in
    let node = c.node-item.result in
    let params = c.args.params.now in
    let outer = values_in c.args.outer.now in
    let here = node_here nodes l.node-index node c.node-item.is c.loop-node-test.true in
    let can : CanWalk (more (tree_of node) none) params outer =
    walk_first (tree_of node) (nodes_of (drop (l.node-index + 1) nodes)) params outer
    (subst (λ (ts : Trees). CanWalk ts params outer) here l.invariant.0) in
    let within : AreWithin c.args.inner (values_in c.args.round.now) outer = c.requires.within in
    let heavy = node_weight nodes l.node-index node c.node-item.is c.loop-node-test.true in
    let less : weight (tree_of node) < weight_all (nodes_of nodes) + 1 = omega arith in
    search rules

pub count_nodes-loop-node-preserved : goal.count_nodes-loop-node-preserved
count_nodes-loop-node-preserved t c =
    let l = c.loop-node in
    let nodes = c.args.nodes.now in
    let node = c.node-item.result in
    let params = c.args.params.now in
    let outer = values_in c.args.outer.now in
    let here = node_here nodes l.node-index node c.node-item.is c.loop-node-test.true in (
      walk_rest (tree_of node) (nodes_of (drop (l.node-index + 1) nodes)) params outer
          (subst (λ (ts : Trees). CanWalk ts params outer) here l.invariant.0),
      λ vs w.
          nodes_step nodes l.node-index node params vs l.count c.in-Some.more c.in-Some-checked_add.sum
          (length (walk_all (nodes_of nodes) params vs)) c.node-item.is c.loop-node-test.true
          c.in-Some-checked_add.ensures.1 (c.in-Some.ensures vs w) (l.invariant.1 vs w),
    )

pub count_nodes-returns : goal.count_nodes-returns
count_nodes-returns t c = λ vs w.
    let l = c.loop-node in
    let nodes = c.args.nodes.now in
    let params = c.args.params.now in
    let nothing_left : drop l.node-index nodes ≡ [] = drop_of_length-le nodes (omega arith) in
    let none_left = ap (λ (ns : List Node). length (walk_all (nodes_of ns) params vs)) nothing_left in
    let so_far = l.invariant.1 vs w in
    omega (arith, none_left, so_far)

pub count_node-count_loop-requires : goal.count_node-count_loop-requires
count_node-count_loop-requires t c =
    let params = c.args.params.now in
    let outer = values_in c.args.outer.now in
    let head = c.in-Loop.head in
    let lo = bounds_in head.lower in
    let up = bounds_in head.upper in
    let t_is : tree_of c.args.node.now ≡ loop head.parallel lo up (nodes_of c.in-Loop.body.items) =
    ap tree_of c.in-Loop.is ∙ tree_loop head c.in-Loop.body in
    let body_is = ap nodes_of c.deref.ensures.value in
    let loop_is : tree_of c.args.node.now ≡ loop head.parallel lo up (nodes_of c.deref.result.now) =
    t_is ∙ ap (λ (ts : Trees). loop head.parallel lo up ts) (sym body_is) in
    let can : CanWalk (more (loop head.parallel lo up (nodes_of c.deref.result.now)) none) params outer =
    subst (λ (u : Tree). CanWalk (more u none) params outer) loop_is c.requires.walk in
    let within : AreWithin c.args.inner (values_in c.args.round.now) outer = c.requires.within in
    let w = ap weight t_is in
    let e = ap weight_all body_is in
    let less : weight_all (nodes_of c.deref.result.now) + 3 < weight (tree_of c.args.node.now) =
    omega (arith, w, e) in
    search rules

pub count_node-count_guard-requires : goal.count_node-count_guard-requires
count_node-count_guard-requires t c =
    let params = c.args.params.now in
    let outer = values_in c.args.outer.now in
    let tests = c.as_slice.result.now in
    let body = c.deref-in-Guard.result.now in
    let t_is : tree_of c.args.node.now ≡ guard (map test_of c.in-Guard.guard.tests.items) (nodes_of c.in-Guard.body.items) =
    ap tree_of c.in-Guard.is ∙ tree_guard c.in-Guard.guard c.in-Guard.body in
    let body_is = ap nodes_of c.deref-in-Guard.ensures.value in
    let guard_is : tree_of c.args.node.now ≡ guard (map test_of tests) (nodes_of body) =
    t_is ∙ ap₂ (λ (us : List CodeTest) (ts : Trees). guard (map test_of us) ts) (sym c.as_slice.ensures.value)
    (sym body_is) in
    let can : CanWalk (more (guard (map test_of tests) (nodes_of body)) none) params outer =
    subst (λ (u : Tree). CanWalk (more u none) params outer) guard_is c.requires.walk in
    let within : AreWithin c.args.inner (values_in c.args.round.now) outer = c.requires.within in
    let w = ap weight t_is in
    let e = ap weight_all body_is in
    let less : weight_all (nodes_of body) + 2 < weight (tree_of c.args.node.now) = omega (arith, w, e) in
    search rules

pub count_guard-count_nodes-requires : goal.count_guard-count_nodes-requires
count_guard-count_nodes-requires t c =
    let tests = map test_of c.args.tests.now in
    let body = nodes_of c.args.body.now in
    let params = c.args.params.now in
    let outer = values_in c.args.outer.now in
    let can : CanWalk body params outer =
    walk_guarded tests body params outer c.requires.walk (sym c.all_hold.ensures ∙ c.if-all_hold.true) in
    let within : AreWithin c.args.inner (values_in c.args.round.now) outer = c.requires.within in
    let less : weight_all body + 1 < weight_all body + 2 = omega arith in
    search rules

pub count_guard-returns-then-all_hold : goal.count_guard-returns-then-all_hold
count_guard-returns-then-all_hold t c =
    IfSome_then c.count_nodes.result c.count_nodes.ensures
    (λ n each vs w.
    guard_counts (map test_of c.args.tests.now) (nodes_of c.args.body.now) c.args.inner (values_in c.args.round.now)
    (values_in c.args.outer.now) vs c.args.params.now n true (c.tests_are_free.ensures c.if-not-tests_are_free.false)
    c.requires.within w (sym c.all_hold.ensures ∙ c.if-all_hold.true) (each vs w))

pub count_guard-returns-else-all_hold : goal.count_guard-returns-else-all_hold
count_guard-returns-else-all_hold t c = λ vs w.
    guard_counts (map test_of c.args.tests.now) (nodes_of c.args.body.now) c.args.inner (values_in c.args.round.now)
    (values_in c.args.outer.now) vs c.args.params.now 0 false (c.tests_are_free.ensures c.if-not-tests_are_free.false)
    c.requires.within w (sym c.all_hold.ensures ∙ c.if-all_hold.false) refl

pub count_loop-count_values-requires : goal.count_loop-count_values-requires
count_loop-count_values-requires t c =
    let head = c.args.head.now in
    let params = c.args.params.now in
    let outer = values_in c.args.outer.now in
    let point = outer ++ params in
    let body = nodes_of c.args.body.now in
    let fits_low : FitsSigned w128 c.range_at-range.result.first = search rules in
    let fits_high : FitsSigned w128 c.range_at-range.result.last = search rules in
    let first = to_z w128 (of_z w128 c.range_at-range.result.first) in
    let last = to_z w128 (of_z w128 c.range_at-range.result.last) in
    let low_is : first ≡ lower (bounds_in head.lower) point =
    to_z-of_z w128 c.range_at-range.result.first fits_low ∙ c.range_at-range.ensures.first in
    let high_is : last ≡ upper (bounds_in head.upper) point =
    to_z-of_z w128 c.range_at-range.result.last fits_high ∙ c.range_at-range.ensures.last in
    let each : (x : ℤ) → first ≤ℤ x → x ≤ℤ last → CanWalk body params (outer ++ x ∷ []) =
    λ x a b.
    walk_turn head.parallel (bounds_in head.lower) (bounds_in head.upper) body params outer x c.requires.walk
    (subst (λ (z : ℤ). z ≤ℤ x) low_is a) (subst (λ (z : ℤ). x ≤ℤ z) high_is b) in
    let within : AreWithin c.args.inner (values_in c.args.round.now) outer = c.requires.within in
    let less : weight_all body + 2 < weight_all body + 3 = omega arith in
    search rules

pub count_loop-returns : goal.count_loop-returns
count_loop-returns t c =
    let head = c.args.head.now in
    let params = c.args.params.now in
    let outer = values_in c.args.outer.now in
    let point = outer ++ params in
    let body = nodes_of c.args.body.now in
    let fits_low : FitsSigned w128 c.range_at-range.result.first = search rules in
    let fits_high : FitsSigned w128 c.range_at-range.result.last = search rules in
    let first = to_z w128 (of_z w128 c.range_at-range.result.first) in
    let last = to_z w128 (of_z w128 c.range_at-range.result.last) in
    let low_is : first ≡ lower (bounds_in head.lower) point =
    to_z-of_z w128 c.range_at-range.result.first fits_low ∙ c.range_at-range.ensures.first in
    let high_is : last ≡ upper (bounds_in head.upper) point =
    to_z-of_z w128 c.range_at-range.result.last fits_high ∙ c.range_at-range.ensures.last in
    IfSome_then c.count_values.result c.count_values.ensures
    (λ n each vs w.
    loop_counts head.parallel (bounds_in head.lower) (bounds_in head.upper) body c.args.inner
    (values_in c.args.round.now) outer vs params n (c.is_head_free.ensures c.if-not-is_head_free.false)
    c.requires.within w
    (ap₂ (λ (a b : ℤ). length (between (λ x. walk_all body params (vs ++ x ∷ [])) a b)) (sym low_is) (sym high_is)
    ∙ each vs w))

pub count_values-count_nodes-requires : goal.count_values-count_nodes-requires
count_values-count_nodes-requires t c =
    let first = c.args.first in
    let v = to_z w128 (of_z w128 first) in
    let last = c.args.last in
    let first_is = to_z-of_z w128 first c.ranges.first in
    let last_is = to_z-of_z w128 last c.ranges.last in
    let up : first ≤ℤ last = grind (arith, ints, c.if-last-first.false, first_is, last_is) in
    let body = nodes_of c.args.body.now in
    let params = c.args.params.now in
    let round = values_in c.args.round.now in
    let outer = values_in c.args.outer.now in
    let inside = values_at c.args.outer first v first_is in
    let can : CanWalk body params (values_in (Within c.args.outer v)) =
    subst (λ (os : List ℤ). CanWalk body params os) (sym inside) (c.requires.walk first (omega (arith, ints)) up) in
    let within : AreWithin c.in-Some.more round (values_in (Within c.args.outer v)) =
    subst (λ (os : List ℤ). AreWithin c.in-Some.more round os) (sym inside)
    (one_more c.args.inner c.in-Some.more round outer first c.in-Some.ensures.1 c.requires.within) in
    let less : weight_all body + 1 < weight_all body + 2 = omega arith in
    search rules

pub count_values-returns-then-last-first : goal.count_values-returns-then-last-first
count_values-returns-then-last-first t c = λ vs w.
    let first = c.args.first in
    let last = c.args.last in
    let first_is = to_z-of_z w128 first c.ranges.first in
    let last_is = to_z-of_z w128 last c.ranges.last in
    let past : last <ℤ first = grind (arith, ints, c.if-last-first.true, first_is, last_is) in
    ap (λ (ws : List Visit). length ws)
    (between_none (λ x. walk_all (nodes_of c.args.body.now) c.args.params.now (vs ++ x ∷ [])) first last past)

pub count_values-returns-in-Some-count_nodes : goal.count_values-returns-in-Some-count_nodes
count_values-returns-in-Some-count_nodes t c =
    let first_is = to_z-of_z w128 c.args.first c.ranges.first in
    let last_is = to_z-of_z w128 c.args.last c.ranges.last in
    let body = nodes_of c.args.body.now in
    let params = c.args.params.now in
    let count = c.in-Some-count_nodes.count in
    IfSome_then c.at_all.result c.at_all.ensures
    (λ n is vs w.
    values_count body c.args.inner c.in-Some.more count (values_in c.args.round.now) vs params c.args.first c.args.last
    c.in-Some.ensures.1 c.in-Some-count_nodes.ensures w
    ∙ (ap₂ (λ (a b : ℤ). count * most_turns (b -ℤ a)) (sym first_is) (sym last_is) ∙ sym is))
