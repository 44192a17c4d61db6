use Rattle.scop_syntax.proofs.Common.{◌≡◌, ◌∙◌, ◌++◌, List, [], All, length, rules, arith, ap, ap₂, sym, subst}
use Rattle.scop_syntax.proofs.Common.{replicate, length-replicate, All-nil, Instance}
use Rattle.loop_tree.specs.Conditions.{IsHeld}
use Rattle.loop_tree.specs.Spot.{IsAt, deep_all, rest_of}
use Rattle.loop_tree.specs.SpotView.{marks_of}
use Rattle.loop_tree.specs.View.{nodes_of, trees_in}
use Rattle.loop_tree.specs.Walk.{visits}
use Rattle.loop_tree.specs.declared.spot.Mark.{Mark as CodeMark}
use Rattle.loop_tree.specs.declared.tree.Node.{Node}
use Rattle.loop_tree.proofs.VisitPlaces.{at_repeated, deep_some, rest_repeated}
use Rattle.loop_tree.proofs.Stretches.{nothing_left}
use Rattle.loop_tree.proofs.spot.Spot.of.Goals as goal

-- src/spot.rt:297:5
pub returns-in-Ok-clause-spot : goal.returns-in-Ok-clause-spot
returns-in-Ok-clause-spot c = λ params.
    let ts = trees_in c.args.tree.now in
    let n = c.depth_of.result in
    let nodes = ap (λ (ns : List Node). deep_all (nodes_of ns)) c.as_slice.ensures.value in
    let deep = c.depth_of.ensures in
    let d = deep_some ts in
    let items : c.in-Ok.marks.items ≡ replicate n c.fresh.result =
    c.in-Ok.ensures.items_if_clones_equal (search rules) in
    let small = c.in-Ok.marks.small in
    let l : length c.in-Ok.marks.items ≡ n =
    ap (λ (ks : List CodeMark). length ks) items ∙ length-replicate n c.fresh.result in
    record {
      room = omega (arith, nodes, deep, small, l);
      stands = subst (λ (ks : List CodeMark). IsAt ts (marks_of ks) params []) (sym items)
          (at_repeated ts n c.fresh.result params [] (omega (arith, nodes, deep, d)) c.fresh.ensures);
      held = subst (λ (is : List Instance). All IsHeld is) (sym (nothing_left c.empty.result c.empty.ensures))
          (All-nil IsHeld);
      braid = c.empty-in-Ok.ensures.braid;
    }

-- src/spot.rt:297:5
pub returns-in-Ok-clause-rest : goal.returns-in-Ok-clause-rest
returns-in-Ok-clause-rest c = λ params.
    let ts = trees_in c.args.tree.now in
    let n = c.depth_of.result in
    let nodes = ap (λ (ns : List Node). deep_all (nodes_of ns)) c.as_slice.ensures.value in
    let deep = c.depth_of.ensures in
    let d = deep_some ts in
    let items : c.in-Ok.marks.items ≡ replicate n c.fresh.result =
    c.in-Ok.ensures.items_if_clones_equal (search rules) in
    let marks = c.in-Ok.marks.items in
    ap₂ (λ (is js : List Instance). is ++ (js ++ rest_of ts (marks_of marks) params []))
    (nothing_left c.empty.result c.empty.ensures) c.empty-in-Ok.ensures.nothing
    ∙ subst (λ (ks : List CodeMark). rest_of ts (marks_of ks) params [] ≡ visits ts params) (sym items)
    (rest_repeated ts n c.fresh.result params [] (omega (arith, nodes, deep, d)) c.fresh.ensures)
