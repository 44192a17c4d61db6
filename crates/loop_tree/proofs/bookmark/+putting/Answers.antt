use Rattle.scop_syntax.proofs.Common.{rules, ℕ, ◌≡◌, ◌∙◌, ◌+◌, ◌<◌, List, map, ℤ, FitsSigned, to_z, of_z, length}
use Rattle.scop_syntax.proofs.Common.{get_or, ap, subst, sym, refl, arith, ◌≤ℤ◌, ◌<ℤ◌, w128, ints, to_z-of_z}
use Rattle.loop_tree.specs.steps.Chain.{values_in}
use Rattle.loop_tree.specs.Bookmarks.{CanStand}
use Rattle.loop_tree.specs.Conditions.{CanWalk}
use Rattle.loop_tree.specs.Spot.{IsAt, IsWithin}
use Rattle.loop_tree.specs.SpotView.{marks_of}
use Rattle.loop_tree.specs.Tree.{Tree, Trees, guard, loop, more, none}
use Rattle.loop_tree.specs.View.{bounds_in, nodes_of, test_of, tree_of}
use Rattle.loop_tree.specs.declared.outer.Outer.TheVariants.{Within}
use Rattle.loop_tree.specs.declared.tree.Node.{Node}
use Rattle.loop_tree.proofs.Bookmarks.{at_end, at_unbegun, can_put_guard, can_put_loop, has_put, has_put_guard}
use Rattle.loop_tree.proofs.Bookmarks.{has_put_loop}
use Rattle.loop_tree.proofs.Chains.{values_at}
use Rattle.loop_tree.proofs.Views.{tree_guard, tree_instance, tree_loop}
use Rattle.loop_tree.proofs.VisitPlaces.{can_node}
use Rattle.loop_tree.proofs.Weights.{node_weight, weight, weight_all}
use Rattle.loop_tree.proofs.bookmark.+putting.Goals as goal
use Rattle.loop_tree.proofs.bookmark.+putting.Goals.{put_at-then-not-mark-via-then-not-mark}
use Rattle.loop_tree.proofs.bookmark.+putting.Goals.{put_at-then-not-mark-via-else-not-mark+then-nodes-mark}

pub put_at-returns-then-not-mark-clause-put : goal.put_at-returns-then-not-mark-clause-put
put_at-returns-then-not-mark-clause-put t c =
    let nodes = c.args.nodes.now in
    let m = c.args.mark.now in
    let ms = marks_of c.args.deeper.now in
    let params = c.args.params.now in
    let outer = values_in c.args.outer.now in
    record {
      alike = refl;
      stands = elim c.then-not-mark.branch [
        | put_at-then-not-mark-via-then-not-mark w ↦
            at_unbegun nodes m.place m.begun m.value m.last ms params outer w.if-not-mark.true
        | put_at-then-not-mark-via-else-not-mark+then-nodes-mark w ↦
            at_end nodes m.place m.begun m.value m.last ms params outer w.if-nodes-mark.true
      ];
    }

-- a loop at a mark can be walked
loop_can : (nodes : List Node) (k : ℕ) (params outer : List ℤ) (node : Node) (t : Tree) → node ≡ get_or nodes k node
    → k < length nodes → tree_of node ≡ t → CanWalk (nodes_of nodes) params outer → CanWalk (more t none) params outer
loop_can nodes k params outer node t found h is can =
    subst (λ (u : Tree). CanWalk (more u none) params outer) is (can_node nodes k node params outer found h can)

pub put_at-range_at-requires-clause-divisors : goal.put_at-range_at-requires-clause-divisors
put_at-range_at-requires-clause-divisors t c =
    let head = c.in-Loop.head in
    let is = ap tree_of c.in-Loop.is ∙ tree_loop head c.in-Loop.body in
    let can = loop_can c.args.nodes.now c.args.mark.now.place c.args.params.now (values_in c.args.outer.now)
    c.index-nodes-mark.result
    (loop head.parallel (bounds_in head.lower) (bounds_in head.upper) (nodes_of c.in-Loop.body.items))
    c.index-nodes-mark.is c.if-nodes-mark.false is c.requires.walk in
    (can.flat.0.0, can.flat.0.1)

pub put_at-range_at-requires-clause-fits : goal.put_at-range_at-requires-clause-fits
put_at-range_at-requires-clause-fits t c =
    let head = c.in-Loop.head in
    let is = ap tree_of c.in-Loop.is ∙ tree_loop head c.in-Loop.body in
    let can = loop_can c.args.nodes.now c.args.mark.now.place c.args.params.now (values_in c.args.outer.now)
    c.index-nodes-mark.result
    (loop head.parallel (bounds_in head.lower) (bounds_in head.upper) (nodes_of c.in-Loop.body.items))
    c.index-nodes-mark.is c.if-nodes-mark.false is c.requires.walk in
    (can.fits.0.0, can.fits.0.1)

pub put_at-returns-then-mark-clause-put : goal.put_at-returns-then-mark-clause-put
put_at-returns-then-mark-clause-put t c =
    let nodes = c.args.nodes.now in
    let m = c.args.mark.now in
    let ms = marks_of c.args.deeper.now in
    let params = c.args.params.now in
    let outer = values_in c.args.outer.now in
    let node = c.index-nodes-mark.result in
    let head = c.in-Loop.head in
    let lo = bounds_in head.lower in
    let up = bounds_in head.upper in
    let body = nodes_of c.in-Loop.body.items in
    let is = ap tree_of c.in-Loop.is ∙ tree_loop head c.in-Loop.body in
    let fits : FitsSigned w128 m.value = search rules in
    let fits_last : FitsSigned w128 c.range_at.result.last = search rules in
    let v_is = to_z-of_z w128 m.value fits in
    let w = to_z w128 (of_z w128 c.range_at.result.last) in
    let w_is : w ≡ c.range_at.result.last = to_z-of_z w128 c.range_at.result.last fits_last in
    let past : w <ℤ m.value = grind (arith, ints, c.if-mark.true, v_is, w_is) in
    let can = can_put_loop nodes m.place node m.begun m.value m.last ms params outer head.parallel lo up body
    c.index-nodes-mark.is c.if-nodes-mark.false c.if-not-mark.false is c.requires.walk c.requires.stands in
    has_put_loop nodes m.place node m.begun m.value m.last w ms ms params outer head.parallel lo up body
    c.index-nodes-mark.is c.if-nodes-mark.false c.if-not-mark.false is (w_is ∙ c.range_at.ensures.last) can.0 refl
    (λ here. absurd (omega (arith, ints, here, past)))

pub put_at-put_lasts-requires : goal.put_at-put_lasts-requires
put_at-put_lasts-requires t c =
    let nodes = c.args.nodes.now in
    let m = c.args.mark.now in
    let ms = marks_of c.args.deeper.now in
    let params = c.args.params.now in
    let outer = values_in c.args.outer.now in
    let node = c.index-nodes-mark.result in
    let head = c.in-Loop.head in
    let lo = bounds_in head.lower in
    let up = bounds_in head.upper in
    let body = nodes_of c.deref.result.now in
    let body_is = ap nodes_of c.deref.ensures.value in
    let t_is = ap tree_of c.in-Loop.is ∙ tree_loop head c.in-Loop.body in
    let is : tree_of node ≡ loop head.parallel lo up body =
    t_is ∙ ap (λ (ts : Trees). loop head.parallel lo up ts) (sym body_is) in
    let fits : FitsSigned w128 m.value = search rules in
    let fits_last : FitsSigned w128 c.range_at.result.last = search rules in
    let v = to_z w128 (of_z w128 m.value) in
    let v_is : v ≡ m.value = to_z-of_z w128 m.value fits in
    let w_is = to_z-of_z w128 c.range_at.result.last fits_last in
    let here : m.value ≤ℤ c.range_at.result.last = grind (arith, ints, c.if-mark.false, v_is, w_is) in
    let can = can_put_loop nodes m.place node m.begun m.value m.last ms params outer head.parallel lo up body
    c.index-nodes-mark.is c.if-nodes-mark.false c.if-not-mark.false is c.requires.walk c.requires.stands in
    let both = can.1 (subst (λ (y : ℤ). m.value ≤ℤ y) c.range_at.ensures.last here) in
    let within = sym (values_at c.args.outer m.value v v_is) in
    let walk : CanWalk body params (values_in (Within c.args.outer v)) =
    subst (λ (os : List ℤ). CanWalk body params os) within both.0 in
    let stands : CanStand body ms params (values_in (Within c.args.outer v)) =
    subst (λ (os : List ℤ). CanStand body ms params os) within both.1 in
    let heavy = node_weight nodes m.place node c.index-nodes-mark.is c.if-nodes-mark.false in
    let a = ap weight is in
    let less : weight_all body + 1 < weight_all (nodes_of nodes) = omega (arith, heavy, a) in
    search rules

pub put_at-put_lasts-requires-in-Guard : goal.put_at-put_lasts-requires-in-Guard
put_at-put_lasts-requires-in-Guard t c =
    let nodes = c.args.nodes.now in
    let m = c.args.mark.now in
    let ms = marks_of c.args.deeper.now in
    let params = c.args.params.now in
    let outer = values_in c.args.outer.now in
    let node = c.index-nodes-mark.result in
    let tests = map test_of c.in-Guard.field-0.tests.items in
    let body = nodes_of c.deref-in-Guard.result.now in
    let is : tree_of node ≡ guard tests body =
    (ap tree_of c.in-Guard.is ∙ tree_guard c.in-Guard.field-0 c.in-Guard.body)
    ∙ ap (λ (ts : Trees). guard tests ts) (sym (ap nodes_of c.deref-in-Guard.ensures.value)) in
    let can = can_put_guard nodes m.place node m.begun m.value m.last ms params outer tests body
    c.index-nodes-mark.is c.if-nodes-mark.false c.if-not-mark.false is c.requires.walk c.requires.stands in
    let walk : CanWalk body params outer = can.1 in
    let stands : CanStand body ms params outer = can.2 in
    let heavy = node_weight nodes m.place node c.index-nodes-mark.is c.if-nodes-mark.false in
    let a = ap weight is in
    let less : weight_all body + 1 < weight_all (nodes_of nodes) = omega (arith, heavy, a) in
    search rules

pub put_at-returns-else-mark-clause-put : goal.put_at-returns-else-mark-clause-put
put_at-returns-else-mark-clause-put t c =
    let nodes = c.args.nodes.now in
    let m = c.args.mark.now in
    let ms = marks_of c.args.deeper.now in
    let params = c.args.params.now in
    let outer = values_in c.args.outer.now in
    let node = c.index-nodes-mark.result in
    let head = c.in-Loop.head in
    let lo = bounds_in head.lower in
    let up = bounds_in head.upper in
    let body = nodes_of c.deref.result.now in
    let is : tree_of node ≡ loop head.parallel lo up body =
    (ap tree_of c.in-Loop.is ∙ tree_loop head c.in-Loop.body)
    ∙ ap (λ (ts : Trees). loop head.parallel lo up ts) (sym (ap nodes_of c.deref.ensures.value)) in
    let new = marks_of c.put_lasts.new.marks in
    let fits : FitsSigned w128 m.value = search rules in
    let fits_last : FitsSigned w128 c.range_at.result.last = search rules in
    let v_is = to_z-of_z w128 m.value fits in
    let w = to_z w128 (of_z w128 c.range_at.result.last) in
    let w_is : w ≡ c.range_at.result.last = to_z-of_z w128 c.range_at.result.last fits_last in
    let can = can_put_loop nodes m.place node m.begun m.value m.last ms params outer head.parallel lo up body
    c.index-nodes-mark.is c.if-nodes-mark.false c.if-not-mark.false is c.requires.walk c.requires.stands in
    let put = c.put_lasts.ensures.put in
    has_put_loop nodes m.place node m.begun m.value m.last w ms new params outer head.parallel lo up body
    c.index-nodes-mark.is c.if-nodes-mark.false c.if-not-mark.false is (w_is ∙ c.range_at.ensures.last) can.0 put.alike
    (λ here. subst (λ (os : List ℤ). IsAt body new params os)
    (values_at c.args.outer m.value (to_z w128 (of_z w128 m.value)) v_is) put.stands)

pub put_at-returns-in-Guard-clause-put : goal.put_at-returns-in-Guard-clause-put
put_at-returns-in-Guard-clause-put t c =
    let nodes = c.args.nodes.now in
    let m = c.args.mark.now in
    let ms = marks_of c.args.deeper.now in
    let params = c.args.params.now in
    let outer = values_in c.args.outer.now in
    let node = c.index-nodes-mark.result in
    let tests = map test_of c.in-Guard.field-0.tests.items in
    let body = nodes_of c.deref-in-Guard.result.now in
    let is : tree_of node ≡ guard tests body =
    (ap tree_of c.in-Guard.is ∙ tree_guard c.in-Guard.field-0 c.in-Guard.body)
    ∙ ap (λ (ts : Trees). guard tests ts) (sym (ap nodes_of c.deref-in-Guard.ensures.value)) in
    let can = can_put_guard nodes m.place node m.begun m.value m.last ms params outer tests body
    c.index-nodes-mark.is c.if-nodes-mark.false c.if-not-mark.false is c.requires.walk c.requires.stands in
    has_put_guard nodes m.place node m.begun m.value m.last ms (marks_of c.put_lasts-in-Guard.new.marks) params outer
    tests body c.index-nodes-mark.is c.if-nodes-mark.false c.if-not-mark.false is can.0 c.put_lasts-in-Guard.ensures.put

pub put_at-returns-in-Instance-clause-put : goal.put_at-returns-in-Instance-clause-put
put_at-returns-in-Instance-clause-put t c =
    let m = c.args.mark.now in
    let ms = marks_of c.args.deeper.now in
    let params = c.args.params.now in
    let outer = values_in c.args.outer.now in
    let leaf = c.in-Instance.field-0 in
    let is = ap tree_of c.in-Instance.is ∙ tree_instance leaf in
    has_put c.args.nodes.now m.place c.index-nodes-mark.result m.begun m.value m.last m.last ms ms params outer
    c.index-nodes-mark.is c.if-nodes-mark.false c.if-not-mark.false refl
    (subst (λ (u : Tree). IsWithin u m.value m.last ms params outer) (sym is) tt)
