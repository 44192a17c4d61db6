use Rattle.tree_simplification.proofs.Common.{◌≡◌, ◌+◌, ◌<◌, ◌≤◌, true, false, List, [], ◌∷◌, ◌++◌, length, map, refl}
use Rattle.tree_simplification.proofs.Common.{ap, subst, sym, ◌∙◌, arith, rules, drop_of_length-le, All, on_ok_weaker}
use Rattle.tree_simplification.proofs.Common.{Affine, composed, variable, variables, form_in, BoundsAreOver, IsOver}
use Rattle.tree_simplification.proofs.Common.{Bounds, Tree, guard, instance, loop, more, none, bounds_in, nodes_of}
use Rattle.tree_simplification.proofs.Common.{test_of, tree_of, node_weight, weight, weight_all, AreTestsFor, CanInline}
use Rattle.tree_simplification.proofs.Common.{Extends, IsOnce, bounds_over, inside, CanBound, CanGoAt, InlinesAt}
use Rattle.iteration_domains.proofs.Surroundings.{length-variable}
use Rattle.loop_tree.specs.declared.tree.Node.{Node}
use Rattle.loop_tree.specs.declared.tree.Test.{Test as CodeTest}
use Rattle.loop_tree.proofs.Views.{tree_guard, tree_instance, tree_loop}
use Rattle.tree_simplification.specs.steps.Inlined.{CanKeep}
use Rattle.tree_simplification.specs.steps.Strided.{CanStride}
use Rattle.tree_simplification.proofs.Strides.{Unrolls, unrolls_none}
use Rattle.tree_simplification.proofs.Nodes.{all_gone, alone_gone, at_goes, at_guarded, at_place, bounds_can, can_at}
use Rattle.tree_simplification.proofs.Nodes.{can_node, guard_can, guard_goes, guard_stays, leaf_can, leaf_goes}
use Rattle.tree_simplification.proofs.Nodes.{loop_can, loop_stays, loop_strided, none_gone, once_can, once_goes}
use Rattle.tree_simplification.proofs.Nodes.{one_gone, plain_bounds, turn_can, turn_more, with_node, with_tree}
use Rattle.tree_simplification.proofs.ComposedForms.{bounds_sized, place_sized}
use Rattle.tree_simplification.proofs.single.nodes.+inlining.Goals as goal

pub inline_nodes-loop-node-init : goal.inline_nodes-loop-node-init
inline_nodes-loop-node-init t c =
    let p = c.args.place.now in
    none_gone p.parameters p.kept p.loops.items c.args.nodes.now (nodes_of c.args.out.now.items)

pub inline_nodes-inline_node-requires : goal.inline_nodes-inline_node-requires
inline_nodes-inline_node-requires t c =
    let p = c.args.place.now in
    let nodes = c.args.nodes.now in
    let i = c.loop-node.node-index in
    let node = c.node-item.result in
    let can : CanInline p.parameters p.kept p.loops.items p.forms.items (more (tree_of node) none) =
    can_node p.parameters p.kept p.loops.items p.forms.items nodes i node c.node-item.is c.loop-node-test.true
    c.requires in
    let heavy = node_weight nodes i node c.node-item.is c.loop-node-test.true in
    let less : weight (tree_of node) < weight_all (nodes_of nodes) + 1 = omega arith in
    search rules

pub inline_nodes-loop-node-preserved : goal.inline_nodes-loop-node-preserved
inline_nodes-loop-node-preserved t c =
    let p = c.args.place.now in
    one_gone p.parameters p.kept p.loops.items c.args.nodes.now c.loop-node.node-index c.node-item.result
    (nodes_of c.args.out.now.items) (nodes_of c.loop-node.out.items) (nodes_of c.inline_node.new.out.items)
    c.node-item.is c.loop-node-test.true c.loop-node.invariant c.in_ok-inline_node.ensures

pub inline_nodes-returns : goal.inline_nodes-returns
inline_nodes-returns t c =
    let p = c.args.place.now in
    all_gone p.parameters p.kept p.loops.items c.args.nodes.now c.loop-node.node-index (nodes_of c.args.out.now.items)
    (nodes_of c.loop-node.out.items) (drop_of_length-le c.args.nodes.now (omega arith)) c.loop-node.invariant

pub inline_node-leaf_at-requires-clause-count : goal.inline_node-leaf_at-requires-clause-count
inline_node-leaf_at-requires-clause-count t c =
    let p = c.args.place.now in
    let leaf = c.in-Instance.leaf in
    let turns = leaf.turns.items in
    let is : tree_of c.args.node.now ≡ instance leaf.statement turns =
    ap tree_of c.in-Instance.is ∙ tree_instance leaf in
    let can = subst (λ (u : Tree). CanInline p.parameters p.kept p.loops.items p.forms.items (more u none)) is
    c.requires in
    subst (λ (fs : List Affine). All (IsOver (length fs)) turns) (sym c.as_slice.ensures.value)
    (leaf_can p.parameters p.kept p.loops.items p.forms.items leaf.statement turns can)

pub inline_node-leaf_at-requires-clause-sized : goal.inline_node-leaf_at-requires-clause-sized
inline_node-leaf_at-requires-clause-sized t c =
    let p = c.args.place.now in
    subst (λ (fs : List Affine). All (IsOver (p.kept + p.parameters)) fs) (sym c.as_slice.ensures.value)
    (place_sized p.parameters p.kept p.loops.items p.forms.items c.requires.place)

pub inline_node-returns-in_ok-push-in-Instance : goal.inline_node-returns-in_ok-push-in-Instance
inline_node-returns-in_ok-push-in-Instance t c =
    let p = c.args.place.now in
    let old = c.in-Instance.leaf in
    let new = c.in_ok-leaf-in-Instance.leaf in
    let n = p.kept + p.parameters in
    let is : tree_of c.args.node.now ≡ instance old.statement old.turns.items =
    ap tree_of c.in-Instance.is ∙ tree_instance old in
    let turns : new.turns.items ≡ map (λ f. composed f p.forms.items n) old.turns.items =
    c.in_ok-leaf-in-Instance.ensures.turns
    ∙ ap (λ (fs : List Affine). map (λ f. composed f fs n) old.turns.items) c.as_slice.ensures.value in
    let within = leaf_goes p.parameters p.kept p.loops.items p.forms.items old.statement new.statement old.turns.items
    new.turns.items c.requires.place c.in_ok-leaf-in-Instance.ensures.statement turns
    c.in_ok-leaf-in-Instance.ensures.small in
    let pushed = c.in_ok-push-in-Instance.ensures.pushed in
    subst (λ (u : Tree). Extends p.parameters p.kept p.loops.items (more u none) (nodes_of c.args.out.now.items)
    (nodes_of c.push.new.list.items)) (sym is)
    (with_node p.parameters p.kept p.loops.items (more (instance old.statement old.turns.items) none)
    c.args.out.now.items c.push.new.list.items _ (instance new.statement new.turns.items) pushed (tree_instance new)
    within)

pub inline_guard-tests_at-requires-clause-count : goal.inline_guard-tests_at-requires-clause-count
inline_guard-tests_at-requires-clause-count t c =
    let p = c.args.place.now in
    let tests = c.args.guard.now.tests.items in
    let can = guard_can p.parameters p.kept p.loops.items p.forms.items (map test_of tests) (nodes_of c.args.body.now)
    c.requires in
    subst (λ (fs : List Affine). All (λ test. IsOver (length fs) (form_in test)) (map test_of c.as_slice.result.now))
    (sym c.as_slice-2.ensures.value)
    (subst (λ (ts : List CodeTest). All (λ test. IsOver (length p.forms.items) (form_in test)) (map test_of ts))
    (sym c.as_slice.ensures.value) can.count)

pub inline_guard-tests_at-requires-clause-sized : goal.inline_guard-tests_at-requires-clause-sized
inline_guard-tests_at-requires-clause-sized t c =
    let p = c.args.place.now in
    subst (λ (fs : List Affine). All (IsOver (p.kept + p.parameters)) fs) (sym c.as_slice-2.ensures.value)
    (place_sized p.parameters p.kept p.loops.items p.forms.items c.requires.place)

pub inline_guard-returns-then-is_empty : goal.inline_guard-returns-then-is_empty
inline_guard-returns-then-is_empty t c =
    let p = c.args.place.now in
    let n = p.kept + p.parameters in
    let tests = c.args.guard.now.tests.items in
    let found = c.in_ok-tests.tests.items in
    let empty : length found ≡ 0 = search rules in
    let are = subst (λ (fs : List Affine). AreTestsFor n fs (map test_of tests) (map test_of found))
    c.as_slice-2.ensures.value
    (subst (λ (ts : List CodeTest). AreTestsFor n c.as_slice-2.result.now (map test_of ts) (map test_of found))
    c.as_slice.ensures.value c.in_ok-tests.ensures) in
    on_ok_weaker c.inline_nodes.result
    (λ gone. guard_goes p.parameters p.kept p.loops.items p.forms.items (map test_of tests) (nodes_of c.args.body.now)
    (nodes_of c.args.out.now.items) (nodes_of c.inline_nodes.new.out.items) found c.requires.place are empty gone)
    c.inline_nodes.ensures

pub inline_guard-returns : goal.inline_guard-returns
inline_guard-returns t c =
    let p = c.args.place.now in
    let n = p.kept + p.parameters in
    let tests = c.args.guard.now.tests.items in
    let body = nodes_of c.args.body.now in
    let found = c.in_ok-tests.tests.items in
    let nodes = c.inline_nodes-2.new.out in
    let some : 0 < length found = search rules in
    let are = subst (λ (fs : List Affine). AreTestsFor n fs (map test_of tests) (map test_of found))
    c.as_slice-2.ensures.value
    (subst (λ (ts : List CodeTest). AreTestsFor n c.as_slice-2.result.now (map test_of ts) (map test_of found))
    c.as_slice.ensures.value c.in_ok-tests.ensures) in
    let inner = alone_gone p.parameters p.kept p.loops.items body c.new-nodes.result.items nodes.items
    c.new-nodes.ensures.items c.in_ok-inline_nodes.ensures in
    let within = guard_stays p.parameters p.kept p.loops.items p.forms.items (map test_of tests) body
    (nodes_of nodes.items) found c.requires.place are some inner in
    let pushed = c.in_ok-push.ensures.pushed in
    with_node p.parameters p.kept p.loops.items (more (guard (map test_of tests) body) none)
    c.args.out.now.items c.push.new.list.items _ (guard (map test_of found) (nodes_of nodes.items)) pushed
    (tree_guard _ nodes) within

pub inline_loop-bounds_at-requires-clause-count : goal.inline_loop-bounds_at-requires-clause-count
inline_loop-bounds_at-requires-clause-count t c =
    let p = c.args.place.now in
    let head = c.args.head.now in
    let can = loop_can p.parameters p.kept p.loops.items p.forms.items head.parallel (bounds_in head.lower)
    (bounds_in head.upper) (nodes_of c.args.body.now) c.requires in
    subst (λ (fs : List Affine). BoundsAreOver (length fs) (bounds_in head.lower)) (sym c.as_slice.ensures.value)
    can.low

pub inline_loop-bounds_at-requires-clause-sized : goal.inline_loop-bounds_at-requires-clause-sized
inline_loop-bounds_at-requires-clause-sized t c =
    let p = c.args.place.now in
    subst (λ (fs : List Affine). All (IsOver (p.kept + p.parameters)) fs) (sym c.as_slice.ensures.value)
    (place_sized p.parameters p.kept p.loops.items p.forms.items c.requires.place)

pub inline_loop-bounds_at-requires-2-clause-count : goal.inline_loop-bounds_at-requires-2-clause-count
inline_loop-bounds_at-requires-2-clause-count t c =
    let p = c.args.place.now in
    let head = c.args.head.now in
    let can = loop_can p.parameters p.kept p.loops.items p.forms.items head.parallel (bounds_in head.lower)
    (bounds_in head.upper) (nodes_of c.args.body.now) c.requires in
    subst (λ (fs : List Affine). BoundsAreOver (length fs) (bounds_in head.upper)) (sym c.as_slice-2.ensures.value)
    can.high

pub inline_loop-bounds_at-requires-2-clause-sized : goal.inline_loop-bounds_at-requires-2-clause-sized
inline_loop-bounds_at-requires-2-clause-sized t c =
    let p = c.args.place.now in
    subst (λ (fs : List Affine). All (IsOver (p.kept + p.parameters)) fs) (sym c.as_slice-2.ensures.value)
    (place_sized p.parameters p.kept p.loops.items p.forms.items c.requires.place)

pub inline_loop-once_at-requires-clause-lower : goal.inline_loop-once_at-requires-clause-lower
inline_loop-once_at-requires-clause-lower t c =
    let p = c.args.place.now in
    let n = p.kept + p.parameters in
    let lo = bounds_in c.args.head.now.lower in
    subst (BoundsAreOver n)
    (sym (c.in_ok-lower.ensures.bounds
    ∙ ap (λ (fs : List Affine). bounds_over true n fs lo) c.as_slice.ensures.value))
    (bounds_sized true n p.forms.items
    (place_sized p.parameters p.kept p.loops.items p.forms.items c.requires.place) lo)

pub inline_loop-once_at-requires-clause-upper : goal.inline_loop-once_at-requires-clause-upper
inline_loop-once_at-requires-clause-upper t c =
    let p = c.args.place.now in
    let n = p.kept + p.parameters in
    let up = bounds_in c.args.head.now.upper in
    subst (BoundsAreOver n)
    (sym (c.in_ok-upper.ensures.bounds
    ∙ ap (λ (fs : List Affine). bounds_over false n fs up) c.as_slice-2.ensures.value))
    (bounds_sized false n p.forms.items
    (place_sized p.parameters p.kept p.loops.items p.forms.items c.requires.place) up)

pub inline_loop-stay_loop-requires : goal.inline_loop-stay_loop-requires
inline_loop-stay_loop-requires t c =
    let p = c.args.place.now in
    let n = p.kept + p.parameters in
    let head = c.args.head.now in
    let body = nodes_of c.args.body.now in
    let lo = bounds_in head.lower in
    let up = bounds_in head.upper in
    let keep : CanKeep p.parameters p.kept p.loops.items p.forms.items lo up (bounds_in c.in_ok-lower.lower)
    (bounds_in c.in_ok-upper.upper) (more (loop head.parallel lo up body) none) =
    record {
      can = c.requires;
      lower = c.in_ok-lower.ensures.bounds
          ∙ ap (λ (fs : List Affine). bounds_over true n fs lo) c.as_slice.ensures.value;
      upper = c.in_ok-upper.ensures.bounds
          ∙ ap (λ (fs : List Affine). bounds_over false n fs up) c.as_slice-2.ensures.value;
      small_low = c.in_ok-lower.ensures.small;
      small_high = c.in_ok-upper.ensures.small;
    } in
    let less : weight_all body + 4 < weight_all body + 5 = omega arith in
    search rules

pub inline_loop-inline_at-requires : goal.inline_loop-inline_at-requires
inline_loop-inline_at-requires t c =
    let p = c.args.place.now in
    let n = p.kept + p.parameters in
    let head = c.args.head.now in
    let body = nodes_of c.args.body.now in
    let lo = bounds_in head.lower in
    let up = bounds_in head.upper in
    let low = bounds_in c.in_ok-lower.lower in
    let high = bounds_in c.in_ok-upper.upper in
    let f = c.in-Some.once.form in
    let tests = map test_of c.in-Some.once.tests.items in
    let known : (head.parallel ≡ false) × IsOnce n f low high tests = search rules in
    let is_low = c.in_ok-lower.ensures.bounds
    ∙ ap (λ (fs : List Affine). bounds_over true n fs lo) c.as_slice.ensures.value in
    let is_high = c.in_ok-upper.ensures.bounds
    ∙ ap (λ (fs : List Affine). bounds_over false n fs up) c.as_slice-2.ensures.value in
    let once = subst (λ (bs : Bounds). IsOnce n f bs (bounds_over false n p.forms.items up) tests) is_low
    (subst (λ (bs : Bounds). IsOnce n f low bs tests) is_high known.1) in
    let goes : CanGoAt p.parameters p.kept p.loops.items p.forms.items lo up f tests body =
    once_can p.parameters p.kept p.loops.items p.forms.items head.parallel lo up f tests body c.requires once in
    let less : weight_all body + 2 < weight_all body + 5 = omega arith in
    search rules

pub inline_loop-returns-in-Some : goal.inline_loop-returns-in-Some
inline_loop-returns-in-Some t c =
    let p = c.args.place.now in
    let n = p.kept + p.parameters in
    let head = c.args.head.now in
    let body = nodes_of c.args.body.now in
    let lo = bounds_in head.lower in
    let up = bounds_in head.upper in
    let low = bounds_in c.in_ok-lower.lower in
    let high = bounds_in c.in_ok-upper.upper in
    let f = c.in-Some.once.form in
    let tests = map test_of c.in-Some.once.tests.items in
    let known : (head.parallel ≡ false) × IsOnce n f low high tests = search rules in
    let is_low = c.in_ok-lower.ensures.bounds
    ∙ ap (λ (fs : List Affine). bounds_over true n fs lo) c.as_slice.ensures.value in
    let is_high = c.in_ok-upper.ensures.bounds
    ∙ ap (λ (fs : List Affine). bounds_over false n fs up) c.as_slice-2.ensures.value in
    let once = subst (λ (bs : Bounds). IsOnce n f bs (bounds_over false n p.forms.items up) tests) is_low
    (subst (λ (bs : Bounds). IsOnce n f low bs tests) is_high known.1) in
    on_ok_weaker c.inline_at.result
    (λ gone. once_goes p.parameters p.kept p.loops.items p.forms.items head.parallel lo up f tests body
    (nodes_of c.args.out.now.items) (nodes_of c.inline_at.new.out.items) c.requires known.0 once gone)
    c.inline_at.ensures

pub stay_loop-stride_loop-requires : goal.stay_loop-stride_loop-requires
stay_loop-stride_loop-requires t c =
    let p = c.args.place.now in
    let head = c.args.head.now in
    let body = nodes_of c.args.body.now in
    let turns = c.turns_at_once-turns.result in
    let serial : head.parallel ≡ false = search rules in
    let some : 1 ≤ turns = search rules in
    let few : turns ≤ 4 = search rules in
    let asked : CanStride p.parameters p.kept p.loops.items p.forms.items head.parallel turns
    (more (loop head.parallel (bounds_in head.lower) (bounds_in head.upper) body) none) =
    record { can = c.requires.can; serial = serial; some = some; few = few } in
    let less : weight_all body + 3 < weight_all body + 4 = omega arith in
    search rules

pub stay_loop-keep_loop-requires : goal.stay_loop-keep_loop-requires
stay_loop-keep_loop-requires t c =
    let body = nodes_of c.args.body.now in
    let asked = c.requires in
    let less : weight_all body + 3 < weight_all body + 4 = omega arith in
    search rules

pub keep_loop-inline_nodes-requires : goal.keep_loop-inline_nodes-requires
keep_loop-inline_nodes-requires t c =
    let p = c.args.place.now in
    let m = p.parameters in
    let k = p.kept in
    let head = c.args.head.now in
    let body = nodes_of c.args.body.now in
    let within = c.in_ok-within.within in
    let can = loop_can m k p.loops.items p.forms.items head.parallel (bounds_in head.lower) (bounds_in head.upper) body
    c.requires.can in
    let here = can.stays (variable (k + 1 + m) k) within.forms.items (length-variable (k + 1 + m) k)
    (c.in_ok-within.ensures.forms
    ∙ ap (λ (fs : List Affine). fs ++ variables (k + 1 + m) (k + 1) m) c.in_ok-within.ensures.loops) in
    let asked : CanInline within.parameters within.kept within.loops.items within.forms.items body =
    can_at m (k + 1) within.parameters within.kept (inside m k p.loops.items) within.loops.items within.forms.items body
    c.in_ok-within.ensures.parameters c.in_ok-within.ensures.kept c.in_ok-within.ensures.loops here in
    let less : weight_all body + 1 < weight_all body + 3 = omega arith in
    search rules

pub keep_loop-returns : goal.keep_loop-returns
keep_loop-returns t c =
    let p = c.args.place.now in
    let m = p.parameters in
    let k = p.kept in
    let head = c.args.head.now in
    let body = nodes_of c.args.body.now in
    let lower = bounds_in c.args.lower in
    let upper = bounds_in c.args.upper in
    let within = c.in_ok-within.within in
    let nodes = c.inline_nodes.new.out in
    let inner = alone_gone within.parameters within.kept within.loops.items body c.new-nodes.result.items nodes.items
    c.new-nodes.ensures.items c.in_ok-inline_nodes.ensures in
    let stays =
    loop_stays m k within.parameters within.kept p.loops.items within.loops.items p.forms.items head.parallel
    (bounds_in head.lower) (bounds_in head.upper) lower upper body (nodes_of nodes.items) c.requires.can.place
    c.requires.lower c.requires.upper c.requires.small_low c.requires.small_high c.in_ok-within.ensures.parameters
    c.in_ok-within.ensures.kept c.in_ok-within.ensures.loops inner in
    let pushed = c.in_ok-push.ensures.pushed in
    with_node m k p.loops.items
    (more (loop head.parallel (bounds_in head.lower) (bounds_in head.upper) body) none) c.args.out.now.items
    c.push.new.list.items _ (loop head.parallel lower upper (nodes_of nodes.items)) pushed (tree_loop _ nodes) stays

pub inline_at-inline_nodes-requires : goal.inline_at-inline_nodes-requires
inline_at-inline_nodes-requires t c =
    let p = c.args.place.now in
    let m = p.parameters in
    let k = p.kept in
    let body = nodes_of c.args.body.now in
    let f = c.args.once.form in
    let within = c.in_ok-within.within in
    let here = c.requires.within within.forms.items
    (c.in_ok-within.ensures.forms
    ∙ ap (λ (fs : List Affine). fs ++ variables (k + m) k m) c.in_ok-within.ensures.loops) in
    let asked : CanInline within.parameters within.kept within.loops.items within.forms.items body =
    can_at m k within.parameters within.kept (p.loops.items ++ f ∷ []) within.loops.items within.forms.items body
    c.in_ok-within.ensures.parameters c.in_ok-within.ensures.kept c.in_ok-within.ensures.loops here in
    let less : weight_all body + 1 < weight_all body + 2 = omega arith in
    search rules

pub inline_at-inline_nodes-requires-2 : goal.inline_at-inline_nodes-requires-2
inline_at-inline_nodes-requires-2 t c =
    let p = c.args.place.now in
    let m = p.parameters in
    let k = p.kept in
    let body = nodes_of c.args.body.now in
    let f = c.args.once.form in
    let within = c.in_ok-within.within in
    let here = c.requires.within within.forms.items
    (c.in_ok-within.ensures.forms
    ∙ ap (λ (fs : List Affine). fs ++ variables (k + m) k m) c.in_ok-within.ensures.loops) in
    let asked : CanInline within.parameters within.kept within.loops.items within.forms.items body =
    can_at m k within.parameters within.kept (p.loops.items ++ f ∷ []) within.loops.items within.forms.items body
    c.in_ok-within.ensures.parameters c.in_ok-within.ensures.kept c.in_ok-within.ensures.loops here in
    let less : weight_all body + 1 < weight_all body + 2 = omega arith in
    search rules

pub inline_at-returns-then-is_empty : goal.inline_at-returns-then-is_empty
inline_at-returns-then-is_empty t c =
    let p = c.args.place.now in
    let head = c.args.head.now in
    let within = c.in_ok-within.within in
    let found = c.args.once.tests.items in
    let empty : length found ≡ 0 = search rules in
    on_ok_weaker c.inline_nodes.result
    (λ gone. at_goes p.parameters p.kept within.parameters within.kept p.loops.items within.loops.items p.forms.items
    (bounds_in head.lower) (bounds_in head.upper) c.args.once.form found (nodes_of c.args.body.now)
    (nodes_of c.args.out.now.items) (nodes_of c.inline_nodes.new.out.items) c.requires empty
    c.in_ok-within.ensures.parameters c.in_ok-within.ensures.kept c.in_ok-within.ensures.loops gone)
    c.inline_nodes.ensures

pub inline_at-returns : goal.inline_at-returns
inline_at-returns t c =
    let p = c.args.place.now in
    let m = p.parameters in
    let k = p.kept in
    let head = c.args.head.now in
    let lo = bounds_in head.lower in
    let up = bounds_in head.upper in
    let f = c.args.once.form in
    let body = nodes_of c.args.body.now in
    let within = c.in_ok-within.within in
    let found = c.args.once.tests.items in
    let nodes = c.inline_nodes-2.new.out in
    let some : 0 < length found = search rules in
    let inner = alone_gone within.parameters within.kept within.loops.items body c.new-nodes.result.items nodes.items
    c.new-nodes.ensures.items c.in_ok-inline_nodes.ensures in
    let guarded = at_guarded m k within.parameters within.kept p.loops.items within.loops.items p.forms.items lo up f
    found body (nodes_of nodes.items) c.requires some c.in_ok-within.ensures.parameters c.in_ok-within.ensures.kept
    c.in_ok-within.ensures.loops inner in
    let pushed = c.in_ok-push.ensures.pushed in
    with_tree (InlinesAt m k p.loops.items lo up f body) c.args.out.now.items c.push.new.list.items _
    (guard (map test_of found) (nodes_of nodes.items)) pushed (tree_guard _ nodes) guarded

pub stride_loop-loop-at-init : goal.stride_loop-loop-at-init
stride_loop-loop-at-init t c =
    let p = c.args.place.now in
    let head = c.args.head.now in
    let body = nodes_of c.args.body.now in (
      omega arith,
      subst (λ (ns : List Node). Unrolls p.parameters p.kept p.loops.items (bounds_in head.lower) (bounds_in head.upper)
          body c.args.turns 0 (nodes_of ns)) (sym c.new-nodes.ensures.items)
          (unrolls_none p.parameters p.kept p.loops.items (bounds_in head.lower) (bounds_in head.upper) body
          c.args.turns),
    )

pub stride_loop-turn_at-requires-clause-inner : goal.stride_loop-turn_at-requires-clause-inner
stride_loop-turn_at-requires-clause-inner t c = let k = c.in_ok-within.ensures.kept in omega (arith, k)

pub stride_loop-turn_at-requires-clause-few : goal.stride_loop-turn_at-requires-clause-few
stride_loop-turn_at-requires-clause-few t c =
    let p = c.args.place.now in
    let head = c.args.head.now in
    let can = loop_can p.parameters p.kept p.loops.items p.forms.items head.parallel (bounds_in head.lower)
    (bounds_in head.upper) (nodes_of c.args.body.now) c.requires.can in
    let few = can.few in
    let k = c.in_ok-within.ensures.kept in
    let m = c.in_ok-within.ensures.parameters in
    omega (arith, few, k, m)

pub stride_loop-turn_at-requires-clause-can : goal.stride_loop-turn_at-requires-clause-can
stride_loop-turn_at-requires-clause-can t c =
    let p = c.args.place.now in
    let m = p.parameters in
    let k = p.kept in
    let head = c.args.head.now in
    let lo = bounds_in head.lower in
    let up = bounds_in head.upper in
    let within = c.in_ok-within.within in
    let are = c.in_ok-within.ensures.forms
    ∙ ap (λ (fs : List Affine). fs ++ variables (k + 1 + m) (k + 1) m) c.in_ok-within.ensures.loops in
    let can = bounds_can m k p.loops.items p.forms.items within.forms.items head.parallel lo up
    (nodes_of c.args.body.now) c.requires.can are in
    at_place (λ x y fs. CanBound (y + x) fs lo up) within.parameters within.kept m (k + 1) within.forms.items
    within.forms.items (sym c.in_ok-within.ensures.parameters) (sym c.in_ok-within.ensures.kept) refl can

pub stride_loop-inline_at-requires : goal.stride_loop-inline_at-requires
stride_loop-inline_at-requires t c =
    let p = c.args.place.now in
    let head = c.args.head.now in
    let lo = bounds_in head.lower in
    let up = bounds_in head.upper in
    let body = nodes_of c.args.body.now in
    let within = c.in_ok-within.within in
    let once = c.in_ok-once.once in
    let asked : CanGoAt within.parameters within.kept within.loops.items within.forms.items lo up once.form
    (map test_of once.tests.items) body =
    turn_can p.parameters p.kept within.parameters within.kept p.loops.items within.loops.items p.forms.items
    within.forms.items head.parallel lo up c.args.turns c.loop-at.at once.form (map test_of once.tests.items) body
    c.requires.can c.in_ok-within.ensures.parameters c.in_ok-within.ensures.kept c.in_ok-within.ensures.loops
    c.in_ok-within.ensures.forms c.in_ok-once.ensures.0 c.in_ok-once.ensures.1 in
    let less : weight_all body + 2 < weight_all body + 3 = omega arith in
    search rules

pub stride_loop-loop-at-preserved : goal.stride_loop-loop-at-preserved
stride_loop-loop-at-preserved t c =
    let p = c.args.place.now in
    let head = c.args.head.now in
    let within = c.in_ok-within.within in
    let more = c.loop-at-test.true in (
      omega (arith, more),
      turn_more p.parameters p.kept within.parameters within.kept p.loops.items within.loops.items
          (bounds_in head.lower) (bounds_in head.upper) (nodes_of c.args.body.now) c.args.turns c.loop-at.at
          c.in_ok-once.once.form (nodes_of c.loop-at.nodes.items) (nodes_of c.inline_at.new.out.items)
          c.loop-at.invariant.1 c.in_ok-within.ensures.parameters c.in_ok-within.ensures.kept
          c.in_ok-within.ensures.loops c.in_ok-once.ensures.0 c.in_ok-inline_at.ensures,
    )

pub stride_loop-block_at-requires-clause-can : goal.stride_loop-block_at-requires-clause-can
stride_loop-block_at-requires-clause-can t c =
    let p = c.args.place.now in
    let head = c.args.head.now in
    plain_bounds p.parameters p.kept p.loops.items p.forms.items head.parallel (bounds_in head.lower)
    (bounds_in head.upper) (nodes_of c.args.body.now) c.requires.can

pub stride_loop-returns : goal.stride_loop-returns
stride_loop-returns t c =
    let p = c.args.place.now in
    let head = c.args.head.now in
    let lo = bounds_in head.lower in
    let up = bounds_in head.upper in
    let body = nodes_of c.args.body.now in
    let ends = c.in_ok-ends.ends in
    let low = bounds_in ends.lower in
    let high = bounds_in ends.upper in
    let nodes = c.loop-at.nodes in
    let most = c.loop-at.invariant.0 in
    let all : c.loop-at.at ≡ c.args.turns = omega (arith, most) in
    let done = subst (λ i. Unrolls p.parameters p.kept p.loops.items lo up body c.args.turns i (nodes_of nodes.items))
    all c.loop-at.invariant.1 in
    let strided = loop_strided p.parameters p.kept p.loops.items p.forms.items head.parallel c.args.turns lo up low high
    body (nodes_of nodes.items) c.requires.can c.requires.serial c.requires.some c.in_ok-ends.ensures done in
    with_node p.parameters p.kept p.loops.items (more (loop head.parallel lo up body) none) c.args.out.now.items
    c.push.new.list.items _ (loop false low high (nodes_of nodes.items)) c.in_ok-push.ensures.pushed
    (tree_loop _ nodes) strided
