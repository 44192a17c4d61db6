use Rattle.scop_syntax.proofs.Common.{rules, ◌≡◌, ◌<◌, ◌++◌, ◌∷◌, [], List, false, true, length, pos, ℤ, ℕ, ◌+◌, ◌≤◌}
use Rattle.scop_syntax.proofs.Common.{Bool, ◌+ℤ◌, ◌-ℤ◌, ◌≤ℤ◌, ◌<ℤ◌, FitsSigned, to_z, of_z, refl, ap, subst, sym, ◌∙◌}
use Rattle.scop_syntax.proofs.Common.{arith, get_or, map, if◌then◌else◌, w128, ints, to_z-of_z, instance_of, Instance}
use Rattle.loop_tree.specs.steps.Chain.{values_in}
use Rattle.loop_tree.specs.steps.Going.{CanGo, CanTurn, HasGone, HasTurned, rest_from, restarted}
use Rattle.loop_tree.specs.steps.Passing.{IsAlone, IsSpent, passed_by, shown_in}
use Rattle.loop_tree.proofs.Braids.{spent_can, spent_passed}
use Rattle.loop_tree.specs.declared.stretch.Stretch.{Stretch}
use Rattle.loop_tree.proofs.Stretches.{found_alone, rest_done}
use Rattle.loop_tree.specs.Conditions.{CanWalk}
use Rattle.loop_tree.specs.Spot.{IsAt, Mark, deep_all, mark as marked_at, rest_of}
use Rattle.loop_tree.specs.SpotView.{marks_of}
use Rattle.loop_tree.specs.Tree.{Tree, Trees, guard as guarded, instance, loop, more, none}
use Rattle.loop_tree.specs.View.{bounds_in, nodes_of, test_of, tree_of}
use Rattle.loop_tree.specs.Walk.{all_hold as tests_hold, lower, upper}
use Rattle.loop_tree.proofs.Views.{tree_guard, tree_instance, tree_loop}
use Rattle.loop_tree.proofs.WalkSteps.{leaf_held, shown_none}
use Rattle.loop_tree.proofs.Weights.{node_weight, weight, weight_all}
use Rattle.loop_tree.specs.declared.outer.Outer.TheVariants.{Within}
use Rattle.loop_tree.proofs.Chains.{values_at}
use Rattle.loop_tree.proofs.VisitPlaces.{at_next, at_restarted, begun_last, go_guard, go_loop, go_node, go_turn}
use Rattle.loop_tree.proofs.VisitPlaces.{gone_guard, gone_instance, gone_loop, gone_node, length-marks}
use Rattle.loop_tree.proofs.VisitPlaces.{length-restarted, node_done, turned_within}
use Rattle.loop_tree.proofs.VisitPlaces.{rest_end, rest_guard, rest_loop, rest_stopped, turns_fewer, turns_next}
use Rattle.loop_tree.proofs.spot.+going.Goals as goal

abbrev begun_of : Mark → Bool
begun_of (marked_at k begun x z) = begun

abbrev value_of_mark : Mark → ℤ
value_of_mark (marked_at k begun x z) = x

abbrev last_of_mark : Mark → ℤ
last_of_mark (marked_at k begun x z) = z

pub next_from-next_in-requires : goal.next_from-next_in-requires
next_from-next_in-requires t c =
    let l = c.loop-mark in
    let nodes = c.args.nodes.now in
    let params = c.args.params.now in
    let outer = values_in c.args.outer.now in
    let ms = marks_of l.deeper in
    let node = c.index-nodes-mark.result in
    let found : node ≡ get_or nodes l.mark.place node = c.index-nodes-mark.is in
    let go : CanGo (more (tree_of node) none) (marked_at 0 l.mark.begun l.mark.value l.mark.last ∷ ms) params outer =
    go_node nodes l.mark.place node l.mark.begun l.mark.value l.mark.last ms params outer found c.loop-mark-test.true
    l.invariant.0 in
    let heavy = node_weight nodes l.mark.place node found c.loop-mark-test.true in
    let spent : IsSpent l.stretch l.braid = l.invariant.3 in
    let less : weight (tree_of node) < weight_all (nodes_of nodes) + 1 = omega arith in
    search rules

pub next_from-returns-then-next_in-clause-gone : goal.next_from-returns-then-next_in-clause-gone
next_from-returns-then-next_in-clause-gone t c =
    let l = c.loop-mark in
    let nodes = c.args.nodes.now in
    let params = c.args.params.now in
    let outer = values_in c.args.outer.now in
    let ms = marks_of l.deeper in
    let node = c.index-nodes-mark.result in
    let found : node ≡ get_or nodes l.mark.place node = c.index-nodes-mark.is in
    let new = c.next_in.new in
    let is = shown_in true new.stretch new.braid in
    let gone = gone_node nodes l.mark.place node l.mark.begun l.mark.value l.mark.last ms new.mark.begun new.mark.value
    new.mark.last (marks_of new.deeper) is params outer found c.loop-mark-test.true
    (c.next_in.ensures.gone c.if-next_in.true) in
    let here = subst (λ k. HasGone (nodes_of nodes) (marks_of (l.mark ∷ l.deeper))
    (marked_at k new.mark.begun new.mark.value new.mark.last ∷ marks_of new.deeper) is params outer)
    (sym c.next_in.ensures.place) gone in
    let same = l.invariant.2 in
    let room = here.room in
    let a = length-marks new.deeper in
    let b = length-marks c.args.deeper.now in
    let d = length-marks l.deeper in
    record { rest = l.invariant.1 ∙ here.rest; room = omega (arith, same, room, a, b, d); stands = here.stands }

pub next_from-loop-mark-preserved : goal.next_from-loop-mark-preserved
next_from-loop-mark-preserved t c =
    let l = c.loop-mark in
    let nodes = c.args.nodes.now in
    let params = c.args.params.now in
    let outer = values_in c.args.outer.now in
    let ms = marks_of l.deeper in
    let node = c.index-nodes-mark.result in
    let found : node ≡ get_or nodes l.mark.place node = c.index-nodes-mark.is in
    let new = c.next_in.new in
    let k = new.mark.place + 1 in
    let ns = marks_of new.deeper in
    let same = l.invariant.2 in
    let here = c.next_in.ensures.room in
    let room = l.invariant.0.room in
    let a = length-marks new.deeper in
    let b = length-marks l.deeper in
    let place : l.mark.place + 1 ≡ k = ap (λ (i : ℕ). i + 1) (sym c.next_in.ensures.place) in
    let done = node_done nodes l.mark.place node l.mark.begun l.mark.value l.mark.last ms new.mark.value new.mark.last
    ns params outer found c.loop-mark-test.true (c.next_in.ensures.none c.if-next_in.false) in (
      record {
        walk = l.invariant.0.walk;
        room = omega (arith, room, here, a, b);
        stands = at_next nodes k new.mark.value new.mark.last ns params outer;
      },
      l.invariant.1
          ∙ (done
          ∙ ap (λ (i : ℕ). rest_of (nodes_of nodes) (marked_at i false new.mark.value new.mark.last ∷ ns) params outer)
          place),
      omega (arith, same, here),
      c.next_in.ensures.ready c.if-next_in.false,
    )

pub next_from-returns-clause-none : goal.next_from-returns-clause-none
next_from-returns-clause-none t c =
    let l = c.loop-mark in
    let nodes = c.args.nodes.now in
    let params = c.args.params.now in
    let outer = values_in c.args.outer.now in
    let ms = marks_of l.deeper in
    λ e.
    l.invariant.1
    ∙ rest_end nodes l.mark.place l.mark.begun l.mark.value l.mark.last ms params outer (omega arith)

pub next_in-next_of-requires : goal.next_in-next_of-requires
next_in-next_of-requires t c =
    let params = c.args.params.now in
    let outer = values_in c.args.outer.now in
    let m = c.args.mark.now in
    let ms = marks_of c.args.deeper.now in
    let tests = map test_of c.in-Guard.guard.tests.items in
    let body = nodes_of c.in-Guard.body.items in
    let t_is : tree_of c.args.node.now ≡ guarded tests body =
    ap tree_of c.in-Guard.is ∙ tree_guard c.in-Guard.guard c.in-Guard.body in
    let holds : tests_hold tests (outer ++ params) ≡ true =
    sym c.lets_pass.ensures ∙ c.if-lets_pass.true in
    let body_is : nodes_of c.deref-then-lets_pass.result.now ≡ body =
    ap nodes_of c.deref-then-lets_pass.ensures.value in
    let go = subst (λ (u : Tree). CanGo (more u none) (marked_at 0 m.begun m.value m.last ∷ ms) params outer) t_is
    c.requires.go in
    let ns = marks_of c.begin_guard.new.deeper in
    let there = subst (λ (ks : List Mark). CanGo body ks params outer) (sym c.begin_guard.ensures.deeper)
    (go_guard tests body m.begun m.value m.last ms params outer go holds) in
    let can : CanGo (nodes_of c.deref-then-lets_pass.result.now) ns params outer =
    subst (λ (ts : Trees). CanGo ts ns params outer) (sym body_is) there in
    let w = ap weight t_is in
    let e = ap weight_all body_is in
    let spent : IsSpent c.args.stretch.now c.args.braid.now = c.requires.spent in
    let less : weight_all (nodes_of c.deref-then-lets_pass.result.now) + 2 < weight (tree_of c.args.node.now) =
    omega (arith, w, e) in
    search rules

pub next_in-instance_at-stretch-requires-clause-held : goal.next_in-instance_at-stretch-requires-clause-held
next_in-instance_at-stretch-requires-clause-held t c =
    let leaf = c.in-Instance.leaf in
    let params = c.args.params.now in
    let outer = values_in c.args.outer.now in
    let is = ap tree_of c.in-Instance.is ∙ tree_instance leaf in
    leaf_held leaf.statement leaf.turns.items params outer
    (subst (λ (u : Tree). CanWalk (more u none) params outer) is c.requires.go.walk)

pub next_in-returns-then-lets_pass-clause-gone : goal.next_in-returns-then-lets_pass-clause-gone
next_in-returns-then-lets_pass-clause-gone t c =
    let params = c.args.params.now in
    let outer = values_in c.args.outer.now in
    let m = c.args.mark.now in
    let ms = marks_of c.args.deeper.now in
    let tests = map test_of c.in-Guard.guard.tests.items in
    let body = nodes_of c.in-Guard.body.items in
    let t_is : tree_of c.args.node.now ≡ guarded tests body =
    ap tree_of c.in-Guard.is ∙ tree_guard c.in-Guard.guard c.in-Guard.body in
    let holds : tests_hold tests (outer ++ params) ≡ true =
    sym c.lets_pass.ensures ∙ c.if-lets_pass.true in
    let body_is : nodes_of c.deref-then-lets_pass.result.now ≡ body =
    ap nodes_of c.deref-then-lets_pass.ensures.value in
    let go = subst (λ (u : Tree). CanGo (more u none) (marked_at 0 m.begun m.value m.last ∷ ms) params outer) t_is
    c.requires.go in
    let room = go.room in
    let begun = c.begin_guard.new.mark in
    let b : begun.begun ≡ true = c.begin_guard.ensures.begun in
    λ e.
    let is = shown_in true c.next_of.new.stretch c.next_of.new.braid in
    let gone = subst (λ (ks : List Mark). HasGone body ks (marks_of c.next_of.new.marks) is params outer)
    c.begin_guard.ensures.deeper
    (subst (λ (ts : Trees). HasGone ts (marks_of c.begin_guard.new.deeper) (marks_of c.next_of.new.marks) is params
    outer) body_is
    (subst (λ (b : Bool). HasGone (nodes_of c.deref-then-lets_pass.result.now) (marks_of c.begin_guard.new.deeper)
    (marks_of c.next_of.new.marks) (shown_in b c.next_of.new.stretch c.next_of.new.braid) params outer) e
    c.next_of.ensures.gone)) in
    subst (λ (u : Tree). HasGone (more u none) (marked_at 0 m.begun m.value m.last ∷ ms)
    (marked_at 0 begun.begun begun.value begun.last ∷ marks_of c.next_of.new.marks) is params outer) (sym t_is)
    (gone_guard tests body m.begun m.value m.last ms begun.begun begun.value begun.last
    (marks_of c.next_of.new.marks) is params outer (omega (arith, room)) holds b gone)

pub next_in-returns-then-lets_pass-clause-none : goal.next_in-returns-then-lets_pass-clause-none
next_in-returns-then-lets_pass-clause-none t c =
    let params = c.args.params.now in
    let outer = values_in c.args.outer.now in
    let m = c.args.mark.now in
    let ms = marks_of c.args.deeper.now in
    let tests = map test_of c.in-Guard.guard.tests.items in
    let body = nodes_of c.in-Guard.body.items in
    let t_is : tree_of c.args.node.now ≡ guarded tests body =
    ap tree_of c.in-Guard.is ∙ tree_guard c.in-Guard.guard c.in-Guard.body in
    let holds : tests_hold tests (outer ++ params) ≡ true =
    sym c.lets_pass.ensures ∙ c.if-lets_pass.true in
    let body_is : nodes_of c.deref-then-lets_pass.result.now ≡ body =
    ap nodes_of c.deref-then-lets_pass.ensures.value in
    let go = subst (λ (u : Tree). CanGo (more u none) (marked_at 0 m.begun m.value m.last ∷ ms) params outer) t_is
    c.requires.go in
    let room = go.room in
    λ e.
    let empty = subst (λ (ts : Trees). rest_of ts (marks_of c.begin_guard.new.deeper) params outer ≡ []) body_is
    (c.next_of.ensures.none e) in
    subst (λ (u : Tree). rest_of (more u none) (marked_at 0 m.begun m.value m.last ∷ ms) params outer ≡ []) (sym t_is)
    (rest_guard tests body m.begun m.value m.last ms params outer (omega (arith, room)) holds
    ∙ subst (λ (ks : List Mark). rest_of body ks params outer ≡ []) c.begin_guard.ensures.deeper empty)

pub next_loop-begin_loop-requires-clause-last : goal.next_loop-begin_loop-requires-clause-last
next_loop-begin_loop-requires-clause-last t c =
    let head = c.args.head.now in
    let m = c.args.mark.now in
    begun_last head.parallel (bounds_in head.lower) (bounds_in head.upper) (nodes_of c.args.body.now) m.begun m.value
    m.last (marks_of c.args.deeper.now) c.args.params.now (values_in c.args.outer.now) c.requires.go.stands

pub next_loop-next_turn-requires : goal.next_loop-next_turn-requires
next_loop-next_turn-requires t c =
    let head = c.args.head.now in
    let params = c.args.params.now in
    let outer = values_in c.args.outer.now in
    let point = outer ++ params in
    let body = nodes_of c.args.body.now in
    let m = c.args.mark.now in
    let ms = marks_of c.args.deeper.now in
    let start : ℤ = if m.begun then m.value else lower (bounds_in head.lower) point in
    let last = upper (bounds_in head.upper) point in
    let begun = c.begin_loop.new in
    let start_is : begun.mark.value ≡ start = ap (λ (n : Mark). value_of_mark n) c.begin_loop.ensures.mark in
    let last_is : begun.mark.last ≡ last = ap (λ (n : Mark). last_of_mark n) c.begin_loop.ensures.mark in
    let go = go_loop head.parallel (bounds_in head.lower) (bounds_in head.upper) body m.begun m.value m.last ms params
    outer c.requires.go in
    let there = subst (λ (ks : List Mark). CanTurn body ks start last params outer) (sym c.begin_loop.ensures.deeper)
    go in
    let from = subst (λ (x : ℤ). CanTurn body (marks_of begun.deeper) x last params outer) (sym start_is) there in
    let can : CanTurn body (marks_of begun.deeper) begun.mark.value begun.mark.last params outer =
    subst (λ (z : ℤ). CanTurn body (marks_of begun.deeper) begun.mark.value z params outer) (sym last_is) from in
    let spent : IsSpent c.args.stretch.now c.args.braid.now = c.requires.spent in
    let less : weight_all body + 4 < weight_all body + 5 = omega arith in
    search rules

pub next_loop-returns-clause-gone : goal.next_loop-returns-clause-gone
next_loop-returns-clause-gone t c =
    let head = c.args.head.now in
    let params = c.args.params.now in
    let outer = values_in c.args.outer.now in
    let point = outer ++ params in
    let body = nodes_of c.args.body.now in
    let m = c.args.mark.now in
    let ms = marks_of c.args.deeper.now in
    let start : ℤ = if m.begun then m.value else lower (bounds_in head.lower) point in
    let last = upper (bounds_in head.upper) point in
    let begun = c.begin_loop.new in
    let start_is : begun.mark.value ≡ start = ap (λ (n : Mark). value_of_mark n) c.begin_loop.ensures.mark in
    let last_is : begun.mark.last ≡ last = ap (λ (n : Mark). last_of_mark n) c.begin_loop.ensures.mark in
    let room = c.requires.go.room in
    let new = c.next_turn.new in
    let ns = marks_of new.deeper in
    let is = shown_in true new.stretch new.braid in
    let kept : length ns ≡ length (if m.begun then ms else restarted ms) =
    length-marks new.deeper
    ∙ (c.next_turn.ensures.room
    ∙ (sym (length-marks begun.deeper) ∙ ap (λ (ks : List Mark). length ks) c.begin_loop.ensures.deeper)) in
    let b : new.mark.begun ≡ true =
    c.next_turn.ensures.begun ∙ ap (λ (n : Mark). begun_of n) c.begin_loop.ensures.mark in
    λ e.
    let at_last = subst (λ (z : ℤ). HasTurned body begun.mark.value (marks_of begun.deeper) new.mark.value ns z is
    params outer) last_is (c.next_turn.ensures.gone e) in
    let turned = subst (λ (ks : List Mark). HasTurned body start ks new.mark.value ns last is params outer)
    c.begin_loop.ensures.deeper
    (subst (λ (x : ℤ). HasTurned body x (marks_of begun.deeper) new.mark.value ns last is params outer) start_is
    at_last) in
    gone_loop head.parallel (bounds_in head.lower) (bounds_in head.upper) body m.begun m.value m.last ms new.mark.begun
    new.mark.value new.mark.last ns is params outer (omega (arith, room)) kept b (c.next_turn.ensures.last ∙ last_is)
    c.requires.go.stands turned

pub next_loop-returns-clause-none : goal.next_loop-returns-clause-none
next_loop-returns-clause-none t c =
    let head = c.args.head.now in
    let params = c.args.params.now in
    let outer = values_in c.args.outer.now in
    let point = outer ++ params in
    let body = nodes_of c.args.body.now in
    let m = c.args.mark.now in
    let ms = marks_of c.args.deeper.now in
    let start : ℤ = if m.begun then m.value else lower (bounds_in head.lower) point in
    let last = upper (bounds_in head.upper) point in
    let begun = c.begin_loop.new in
    let start_is : begun.mark.value ≡ start = ap (λ (n : Mark). value_of_mark n) c.begin_loop.ensures.mark in
    let last_is : begun.mark.last ≡ last = ap (λ (n : Mark). last_of_mark n) c.begin_loop.ensures.mark in
    let room = c.requires.go.room in
    λ e.
    let at_last = subst (λ (z : ℤ). rest_from body (marks_of begun.deeper) begun.mark.value z params outer ≡ []) last_is
    (c.next_turn.ensures.none e) in
    rest_loop head.parallel (bounds_in head.lower) (bounds_in head.upper) body m.begun m.value m.last ms params outer
    (omega (arith, room))
    ∙ subst (λ (ks : List Mark). rest_from body ks start last params outer ≡ []) c.begin_loop.ensures.deeper
    (subst (λ (x : ℤ). rest_from body (marks_of begun.deeper) x last params outer ≡ []) start_is at_last)

pub next_turn-next_within-requires : goal.next_turn-next_within-requires
next_turn-next_within-requires t c =
    let value = c.loop-mark.mark.value in
    let last = c.loop-mark.mark.last in
    let fits : FitsSigned w128 value = search rules in
    let fits_last : FitsSigned w128 last = search rules in
    let v = to_z w128 (of_z w128 value) in
    let v_is : v ≡ value = to_z-of_z w128 value fits in
    let last_is = to_z-of_z w128 last fits_last in
    let body = nodes_of c.args.body.now in
    let params = c.args.params.now in
    let outer = values_in c.args.outer.now in
    let ms = marks_of c.loop-mark.deeper in
    let here : value ≤ℤ last = grind (arith, ints, c.loop-mark-test.true, v_is, last_is) in
    let go = go_turn body ms value last params outer c.loop-mark.invariant.0 here in
    let can : CanGo body ms params (outer ++ v ∷ []) =
    subst (λ (x : ℤ). CanGo body ms params (outer ++ x ∷ [])) (sym v_is) go in
    let spent : IsSpent c.loop-mark.stretch c.loop-mark.braid = c.loop-mark.invariant.7 in
    let less : weight_all body + 3 < weight_all body + 4 = omega arith in
    search rules

pub next_turn-loop-mark-smaller : goal.next_turn-loop-mark-smaller
next_turn-loop-mark-smaller t c =
    let value = c.loop-mark.mark.value in
    let last = c.loop-mark.mark.last in
    let fits : FitsSigned w128 value = search rules in
    let fits_last : FitsSigned w128 last = search rules in
    let v = to_z w128 (of_z w128 value) in
    let v_is : v ≡ value = to_z-of_z w128 value fits in
    let last_is = to_z-of_z w128 last fits_last in
    let less : value <ℤ last = grind (arith, ints, c.if-mark.false, v_is, last_is) in
    let up : FitsSigned w128 (v +ℤ pos 1) = omega (arith, ints, v_is, less, fits_last, fits) in
    let n = to_z w128 (of_z w128 (v +ℤ pos 1)) in
    let n_is : n ≡ v +ℤ pos 1 = to_z-of_z w128 (v +ℤ pos 1) up in
    turns_fewer (last -ℤ value) (last -ℤ n) (omega (arith, ints, n_is, v_is)) (omega (arith, ints, n_is, v_is, less))

pub next_turn-loop-mark-preserved : goal.next_turn-loop-mark-preserved
next_turn-loop-mark-preserved t c =
    let value = c.loop-mark.mark.value in
    let last = c.loop-mark.mark.last in
    let fits : FitsSigned w128 value = search rules in
    let fits_last : FitsSigned w128 last = search rules in
    let v = to_z w128 (of_z w128 value) in
    let v_is : v ≡ value = to_z-of_z w128 value fits in
    let last_is = to_z-of_z w128 last fits_last in
    let less : value <ℤ last = grind (arith, ints, c.if-mark.false, v_is, last_is) in
    let up : FitsSigned w128 (v +ℤ pos 1) = omega (arith, ints, v_is, less, fits_last, fits) in
    let n = to_z w128 (of_z w128 (v +ℤ pos 1)) in
    let n_is : n ≡ v +ℤ pos 1 = to_z-of_z w128 (v +ℤ pos 1) up in
    let l = c.loop-mark in
    let body = nodes_of c.args.body.now in
    let params = c.args.params.now in
    let outer = values_in c.args.outer.now in
    let ws = marks_of c.next_within.new.deeper in
    let rs = marks_of c.restart.new.marks in
    let low : c.args.mark.now.value ≤ℤ value = l.invariant.1 in
    let kept = c.next_within.ensures.gone.room in
    let had = l.invariant.0.room in
    let room : deep_all body ≤ length ws = omega (arith, kept, had) in
    let r = length-restarted ws in
    let r_is : length rs ≡ length (restarted ws) = ap (λ (ms : List Mark). length ms) c.restart.ensures in
    let here : value ≤ℤ last = omega (arith, ints, less) in
    let empty = subst (λ (x : ℤ). rest_of body (marks_of l.deeper) params (outer ++ x ∷ []) ≡ []) v_is
    (c.next_within.ensures.none c.if-next_within.false) in
    let step = turns_next body (marks_of l.deeper) ws value last params outer here room empty in
    let next : value +ℤ pos 1 ≡ n = omega (arith, ints, n_is, v_is) in
    let a = length-marks c.restart.new.marks in
    let b = length-marks c.next_within.new.deeper in
    let d = length-marks l.deeper in
    let same = l.invariant.3 in (
      record {
        walk = λ y from to. l.invariant.0.walk y (omega (arith, ints, next, from)) to;
        room = omega (arith, room, r, r_is);
        stands = λ h. subst (λ (ms : List Mark). IsAt body ms params (outer ++ n ∷ [])) (sym c.restart.ensures)
            (at_restarted body ws params (outer ++ n ∷ []) room);
      },
      omega (arith, ints, low, next),
      l.invariant.2
          ∙ (step
          ∙ (ap (λ (x : ℤ). rest_from body (restarted ws) x last params outer) next
          ∙ ap (λ (ms : List Mark). rest_from body ms n last params outer) (sym c.restart.ensures))),
      omega (arith, a, b, d, r, r_is, kept, same),
      l.invariant.4,
      l.invariant.5,
      l.invariant.6,
      c.next_within.ensures.ready c.if-next_within.false,
    )

pub next_from-returns-clause-gone : goal.next_from-returns-clause-gone
next_from-returns-clause-gone t c =
    let l = c.loop-mark in
    let same = l.invariant.2 in
    let a = length-marks l.deeper in
    let b = length-marks c.args.deeper.now in
    record { rest = l.invariant.1; room = omega (arith, same, a, b); stands = l.invariant.0.stands }

pub next_in-lets_pass-requires-clause-begun : goal.next_in-lets_pass-requires-clause-begun
next_in-lets_pass-requires-clause-begun t c =
    let params = c.args.params.now in
    let outer = values_in c.args.outer.now in
    let m = c.args.mark.now in
    let ms = marks_of c.args.deeper.now in
    let tests = map test_of c.in-Guard.guard.tests.items in
    let body = nodes_of c.in-Guard.body.items in
    let t_is : tree_of c.args.node.now ≡ guarded tests body =
    ap tree_of c.in-Guard.is ∙ tree_guard c.in-Guard.guard c.in-Guard.body in
    let at = subst (λ (u : Tree). IsAt (more u none) (marked_at 0 m.begun m.value m.last ∷ ms) params outer) t_is
    c.requires.go.stands in
    λ b.
    (subst (λ (d : Bool). IsAt (more (guarded tests body) none) (marked_at 0 d m.value m.last ∷ ms) params outer) b
    at).0

pub next_in-returns-then-mark-clause-none : goal.next_in-returns-then-mark-clause-none
next_in-returns-then-mark-clause-none t c =
    let params = c.args.params.now in
    let outer = values_in c.args.outer.now in
    let m = c.args.mark.now in
    let ms = marks_of c.args.deeper.now in
    let leaf = c.in-Instance.leaf in
    let t_is = ap tree_of c.in-Instance.is ∙ tree_instance leaf in
    λ e.
    subst (λ (u : Tree). rest_of (more u none) (marked_at 0 m.begun m.value m.last ∷ ms) params outer ≡ []) (sym t_is)
    (subst (λ (b : Bool). rest_of (more (instance leaf.statement leaf.turns.items) none)
    (marked_at 0 b m.value m.last ∷ ms) params outer ≡ []) (sym c.if-mark.true) refl)

pub next_in-returns-in-Loop-clause-gone : goal.next_in-returns-in-Loop-clause-gone
next_in-returns-in-Loop-clause-gone t c =
    let params = c.args.params.now in
    let outer = values_in c.args.outer.now in
    let head = c.in-Loop.head in
    let lo = bounds_in head.lower in
    let up = bounds_in head.upper in
    let m = c.args.mark.now in
    let ms = marks_of c.args.deeper.now in
    let t_is : tree_of c.args.node.now ≡ loop head.parallel lo up (nodes_of c.in-Loop.body.items) =
    ap tree_of c.in-Loop.is ∙ tree_loop head c.in-Loop.body in
    let body_is = ap nodes_of c.deref.ensures.value in
    let loop_is : tree_of c.args.node.now ≡ loop head.parallel lo up (nodes_of c.deref.result.now) =
    t_is ∙ ap (λ (ts : Trees). loop head.parallel lo up ts) (sym body_is) in
    let new = c.next_loop.new in
    λ e.
    subst (λ (u : Tree). HasGone (more u none) (marked_at 0 m.begun m.value m.last ∷ ms)
    (marked_at 0 new.mark.begun new.mark.value new.mark.last ∷ marks_of new.deeper)
    (shown_in true new.stretch new.braid) params outer) (sym loop_is) (c.next_loop.ensures.gone e)

pub next_in-returns-in-Loop-clause-none : goal.next_in-returns-in-Loop-clause-none
next_in-returns-in-Loop-clause-none t c =
    let params = c.args.params.now in
    let outer = values_in c.args.outer.now in
    let head = c.in-Loop.head in
    let lo = bounds_in head.lower in
    let up = bounds_in head.upper in
    let m = c.args.mark.now in
    let ms = marks_of c.args.deeper.now in
    let t_is : tree_of c.args.node.now ≡ loop head.parallel lo up (nodes_of c.in-Loop.body.items) =
    ap tree_of c.in-Loop.is ∙ tree_loop head c.in-Loop.body in
    let body_is = ap nodes_of c.deref.ensures.value in
    let loop_is : tree_of c.args.node.now ≡ loop head.parallel lo up (nodes_of c.deref.result.now) =
    t_is ∙ ap (λ (ts : Trees). loop head.parallel lo up ts) (sym body_is) in
    λ e.
    subst (λ (u : Tree). rest_of (more u none) (marked_at 0 m.begun m.value m.last ∷ ms) params outer ≡ [])
    (sym loop_is) (c.next_loop.ensures.none e)

pub next_in-next_loop-requires : goal.next_in-next_loop-requires
next_in-next_loop-requires t c =
    let params = c.args.params.now in
    let outer = values_in c.args.outer.now in
    let head = c.in-Loop.head in
    let lo = bounds_in head.lower in
    let up = bounds_in head.upper in
    let m = c.args.mark.now in
    let ms = marks_of c.args.deeper.now in
    let t_is : tree_of c.args.node.now ≡ loop head.parallel lo up (nodes_of c.in-Loop.body.items) =
    ap tree_of c.in-Loop.is ∙ tree_loop head c.in-Loop.body in
    let body_is = ap nodes_of c.deref.ensures.value in
    let loop_is : tree_of c.args.node.now ≡ loop head.parallel lo up (nodes_of c.deref.result.now) =
    t_is ∙ ap (λ (ts : Trees). loop head.parallel lo up ts) (sym body_is) in
    let can : CanGo (more (loop head.parallel lo up (nodes_of c.deref.result.now)) none)
    (marked_at 0 m.begun m.value m.last ∷ ms) params outer =
    subst (λ (u : Tree). CanGo (more u none) (marked_at 0 m.begun m.value m.last ∷ ms) params outer) loop_is
    c.requires.go in
    let w = ap weight t_is in
    let e = ap weight_all body_is in
    let spent : IsSpent c.args.stretch.now c.args.braid.now = c.requires.spent in
    let less : weight_all (nodes_of c.deref.result.now) + 5 < weight (tree_of c.args.node.now) =
    omega (arith, w, e) in
    search rules

pub next_in-returns-else-lets_pass-clause-none : goal.next_in-returns-else-lets_pass-clause-none
next_in-returns-else-lets_pass-clause-none t c =
    let params = c.args.params.now in
    let outer = values_in c.args.outer.now in
    let m = c.args.mark.now in
    let ms = marks_of c.args.deeper.now in
    let tests = map test_of c.in-Guard.guard.tests.items in
    let body = nodes_of c.in-Guard.body.items in
    let t_is : tree_of c.args.node.now ≡ guarded tests body =
    ap tree_of c.in-Guard.is ∙ tree_guard c.in-Guard.guard c.in-Guard.body in
    λ e.
    subst (λ (u : Tree). rest_of (more u none) (marked_at 0 m.begun m.value m.last ∷ ms) params outer ≡ []) (sym t_is)
    (rest_stopped tests body m.begun m.value m.last ms params outer (sym c.lets_pass.ensures ∙ c.if-lets_pass.false))

pub next_in-returns-else-mark-clause-gone : goal.next_in-returns-else-mark-clause-gone
next_in-returns-else-mark-clause-gone t c =
    let params = c.args.params.now in
    let outer = values_in c.args.outer.now in
    let m = c.args.mark.now in
    let ms = marks_of c.args.deeper.now in
    let leaf = c.in-Instance.leaf in
    let n = leaf.statement in
    let forms = leaf.turns.items in
    let new = c.begin.new.mark in
    let ns = marks_of c.begin.new.deeper in
    let found : Stretch = record c.args.stretch.now { before = c.instance_at-stretch.result } in
    let is = shown_in true found c.args.braid.now in
    let spent : IsSpent found c.args.braid.now =
    record { stretch = c.requires.spent.stretch; braid = c.requires.spent.braid; nothing = c.requires.spent.nothing } in
    let empty = spent_passed found c.args.braid.now spent in
    let t_is = ap tree_of c.in-Instance.is ∙ tree_instance leaf in
    let was : m.begun ≡ false = c.if-mark.false in
    let now : new.begun ≡ true = ap (λ (k : Mark). begun_of k) c.begin.ensures.mark in
    let kept = ap (λ (ks : List Mark). length ks) c.begin.ensures.deeper ∙ length-restarted ms in
    λ e.
    subst (λ (u : Tree). HasGone (more u none) (marked_at 0 m.begun m.value m.last ∷ ms)
    (marked_at 0 new.begun new.value new.last ∷ ns) is params outer) (sym t_is)
    (subst (λ (b : Bool). HasGone (more (instance n forms) none) (marked_at 0 b m.value m.last ∷ ms)
    (marked_at 0 new.begun new.value new.last ∷ ns) is params outer) (sym was)
    (subst (λ (b : Bool). HasGone (more (instance n forms) none) (marked_at 0 false m.value m.last ∷ ms)
    (marked_at 0 b new.value new.last ∷ ns) is params outer) (sym now)
    (subst (λ (js : List Instance). HasGone (more (instance n forms) none) (marked_at 0 false m.value m.last ∷ ms)
    (marked_at 0 true new.value new.last ∷ ns) (instance_of c.instance_at-stretch.result ∷ js) params outer) (sym empty)
    (gone_instance n forms (instance_of c.instance_at-stretch.result) m.value m.last new.value new.last ms ns params
    outer c.instance_at-stretch.ensures kept))))

pub next_in-returns-else-mark-clause-held : goal.next_in-returns-else-mark-clause-held
next_in-returns-else-mark-clause-held t c = λ e.
    spent_can (record c.args.stretch.now { before = c.instance_at-stretch.result }) c.args.braid.now
    (record { stretch = c.requires.spent.stretch; braid = c.requires.spent.braid; nothing = c.requires.spent.nothing })

pub next_within-next_of-requires : goal.next_within-next_of-requires
next_within-next_of-requires t c =
    let v = to_z w128 (of_z w128 c.args.value) in
    let body = nodes_of c.args.body.now in
    let params = c.args.params.now in
    let ms = marks_of c.args.deeper.now in
    let within = values_at c.args.outer c.args.value v (to_z-of_z w128 c.args.value c.ranges.value) in
    let can : CanGo body ms params (values_in (Within c.args.outer v)) =
    subst (λ (os : List ℤ). CanGo body ms params os) (sym within) c.requires.go in
    let spent : IsSpent c.args.stretch.now c.args.braid.now = c.requires.spent in
    let less : weight_all body + 2 < weight_all body + 3 = omega arith in
    search rules

pub next_within-returns-clause-gone : goal.next_within-returns-clause-gone
next_within-returns-clause-gone t c =
    subst (λ (os : List ℤ). HasGone (nodes_of c.args.body.now) (marks_of c.args.deeper.now)
    (marks_of c.next_of.new.marks) (shown_in c.next_of.result c.next_of.new.stretch c.next_of.new.braid)
    c.args.params.now os)
    (values_at c.args.outer c.args.value (to_z w128 (of_z w128 c.args.value))
    (to_z-of_z w128 c.args.value c.ranges.value)) c.next_of.ensures.gone

pub next_within-returns-clause-none : goal.next_within-returns-clause-none
next_within-returns-clause-none t c =
    λ e.
    subst (λ (os : List ℤ). rest_of (nodes_of c.args.body.now) (marks_of c.args.deeper.now) c.args.params.now os ≡ [])
    (values_at c.args.outer c.args.value (to_z w128 (of_z w128 c.args.value))
    (to_z-of_z w128 c.args.value c.ranges.value)) (c.next_of.ensures.none e)

pub next_turn-returns-then-next_within-clause-gone : goal.next_turn-returns-then-next_within-clause-gone
next_turn-returns-then-next_within-clause-gone t c =
    let l = c.loop-mark in
    let value = l.mark.value in
    let last = l.mark.last in
    let fits : FitsSigned w128 value = search rules in
    let fits_last : FitsSigned w128 last = search rules in
    let v_is = to_z-of_z w128 value fits in
    let last_is = to_z-of_z w128 last fits_last in
    let body = nodes_of c.args.body.now in
    let params = c.args.params.now in
    let outer = values_in c.args.outer.now in
    let first = c.args.mark.now in
    let old = marks_of c.args.deeper.now in
    let ms = marks_of l.deeper in
    let new = marks_of c.next_within.new.deeper in
    let found = c.next_within.new in
    let is = shown_in true found.stretch found.braid in
    let all = shown_in true c.pass_more.new.stretch c.pass_more.new.braid in
    let here : value ≤ℤ last = grind (arith, ints, c.loop-mark-test.true, v_is, last_is) in
    let turned = turned_within body ms new value last is params outer here
    (subst (λ (x : ℤ). HasGone body ms new is params (outer ++ x ∷ [])) v_is
    (subst (λ (b : Bool). HasGone body ms new (shown_in b found.stretch found.braid) params
    (outer ++ to_z w128 (of_z w128 value) ∷ [])) c.if-next_within.true c.next_within.ensures.gone)) in
    let same : last ≡ first.last = l.invariant.6 in
    let from = subst (λ (z : ℤ). rest_from body old first.value z params outer ≡ rest_from body ms value last params
    outer) (sym same) l.invariant.2 in
    let whole : HasTurned body first.value old value new last is params outer =
    record { rest = from ∙ turned.rest; up = l.invariant.1; stands = turned.stands } in
    λ e.
    subst (λ (z : ℤ). HasTurned body first.value old c.pass_more.new.mark.value new z all params outer) same
    (c.pass_more.ensures.gone first.value old whole)

pub next_turn-pass_more-requires-clause-alone : goal.next_turn-pass_more-requires-clause-alone
next_turn-pass_more-requires-clause-alone t c =
    let l = c.loop-mark in
    let value = l.mark.value in
    let fits : FitsSigned w128 value = search rules in
    let v_is = to_z-of_z w128 value fits in
    let body = nodes_of c.args.body.now in
    let params = c.args.params.now in
    let outer = values_in c.args.outer.now in
    let found = c.next_within.new in
    let i = instance_of found.stretch.before in
    let there = outer ++ to_z w128 (of_z w128 value) ∷ [] in
    subst (λ (x : ℤ). IsAlone body i params (outer ++ x ∷ [])) v_is
    (found_alone body (marks_of l.deeper) (marks_of found.deeper) i (passed_by found.stretch found.braid) params there
    (subst (λ (b : Bool). HasGone body (marks_of l.deeper) (marks_of found.deeper)
    (shown_in b found.stretch found.braid) params there) c.if-next_within.true c.next_within.ensures.gone))

pub next_turn-pass_more-requires-clause-turn : goal.next_turn-pass_more-requires-clause-turn
next_turn-pass_more-requires-clause-turn t c =
    let l = c.loop-mark in
    let value = l.mark.value in
    let fits : FitsSigned w128 value = search rules in
    let v_is = to_z-of_z w128 value fits in
    let body = nodes_of c.args.body.now in
    let params = c.args.params.now in
    let outer = values_in c.args.outer.now in
    let new = marks_of c.next_within.new.deeper in
    let kept = c.next_within.ensures.gone.room in
    let room = l.invariant.0.room in
    record {
      walk = l.invariant.0.walk;
      room = omega (arith, kept, room);
      stands = λ h. subst (λ (x : ℤ). IsAt body new params (outer ++ x ∷ [])) v_is c.next_within.ensures.gone.stands;
    }

pub next_turn-returns-then-mark-clause-none : goal.next_turn-returns-then-mark-clause-none
next_turn-returns-then-mark-clause-none t c = λ e.
    let l = c.loop-mark in
    let value = l.mark.value in
    let last = l.mark.last in
    let fits : FitsSigned w128 value = search rules in
    let fits_last : FitsSigned w128 last = search rules in
    let v_is = to_z-of_z w128 value fits in
    let last_is = to_z-of_z w128 last fits_last in
    let body = nodes_of c.args.body.now in
    let params = c.args.params.now in
    let outer = values_in c.args.outer.now in
    let ms = marks_of l.deeper in
    let here : value ≤ℤ last = grind (arith, ints, c.loop-mark-test.true, v_is, last_is) in
    let past : last ≤ℤ value = grind (arith, ints, c.if-mark.true, v_is, last_is) in
    let empty = subst (λ (x : ℤ). rest_of body ms params (outer ++ x ∷ []) ≡ []) v_is
    (c.next_within.ensures.none c.if-next_within.false) in
    l.invariant.2
    ∙ (rest_done body ms value last params outer here empty
    ∙ shown_none body params outer (value +ℤ pos 1) last (omega (arith, ints, past)))

pub next_within-returns-then-is_ended-clause-gone : goal.next_within-returns-then-is_ended-clause-gone
next_within-returns-then-is_ended-clause-gone t c =
    record { rest = refl; room = refl; stands = c.requires.go.stands }

pub next_within-returns-then-is_ended-clause-none : goal.next_within-returns-then-is_ended-clause-none
next_within-returns-then-is_ended-clause-none t c = λ e.
    c.is_ended.ensures c.if-is_ended.true c.args.params.now (values_in c.args.outer.now ++ c.args.value ∷ [])
    c.requires.go.stands
