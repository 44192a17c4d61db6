use Rattle.scop_syntax.proofs.Common.{◌≡◌, ◌∙◌, ◌++◌, List, [], ℤ, All, All-nil, ap, ap₂, arith, length, map, subst, sym}
use Rattle.scop_syntax.proofs.Common.{with_items, with_items_is, Instance}
use Rattle.loop_tree.specs.Bookmarks.{kept_in, without_last}
use Rattle.loop_tree.specs.Conditions.{IsHeld}
use Rattle.loop_tree.specs.Spot.{IsAt, Mark, rest_of}
use Rattle.loop_tree.specs.SpotView.{marks_of}
use Rattle.loop_tree.specs.View.{nodes_of, trees_in}
use Rattle.loop_tree.specs.declared.spot.Mark.{Mark as CodeMark}
use Rattle.loop_tree.specs.declared.tree.Node.{Node}
use Rattle.loop_tree.proofs.Bookmarks.{rest_without_last}
use Rattle.loop_tree.proofs.Chains.{values_row}
use Rattle.loop_tree.proofs.Stretches.{nothing_left}
use Rattle.loop_tree.proofs.spot.Spot.put.Goals as goal

pub returns-clause-rest : goal.returns-clause-rest
returns-clause-rest c =
    let ts = trees_in c.args.tree.now in
    let params = c.args.params.now in
    let steps = map kept_in c.args.steps.now in
    let laid = with_items c.args.self.now.marks c.put_marks.new.marks in
    let new = c.put_lasts.new.marks in
    let a = c.put_marks.ensures.room in
    let b = c.as_mut_slice.ensures.len in
    let d = c.put_lasts.ensures.room in
    let e = c.as_mut_slice-2.ensures.len in
    let laid_is : laid.items ≡ c.put_marks.new.marks =
    with_items_is c.args.self.now.marks c.put_marks.new.marks (omega (arith, a, b)) in
    let new_is : (with_items laid new).items ≡ new = with_items_is laid new (omega (arith, d, e)) in
    let alike : map without_last (marks_of new) ≡ map without_last steps =
    c.put_lasts.ensures.put.alike
    ∙ ap (λ (ms : List Mark). map without_last ms)
    (ap (λ (ms : List CodeMark). marks_of ms) (c.as_mut_slice-2.ensures.value ∙ laid_is) ∙ c.put_marks.ensures.kept) in
    ap₂ (λ (is js : List Instance). is ++ (js ++ rest_of ts (marks_of (with_items laid new).items) params []))
    (nothing_left c.empty-self.result c.empty-self.ensures) c.empty-self-2.ensures.nothing
    ∙ (ap (λ (ms : List CodeMark). rest_of ts (marks_of ms) params []) new_is
    ∙ rest_without_last ts (marks_of new) steps params [] alike)

pub returns-clause-spot : goal.returns-clause-spot
returns-clause-spot c =
    let ts = trees_in c.args.tree.now in
    let params = c.args.params.now in
    let was = c.args.self.now.marks in
    let laid = with_items was c.put_marks.new.marks in
    let new = c.put_lasts.new.marks in
    let a = c.put_marks.ensures.room in
    let b = c.as_mut_slice.ensures.len in
    let d = c.put_lasts.ensures.room in
    let e = c.as_mut_slice-2.ensures.len in
    let laid_is : laid.items ≡ c.put_marks.new.marks = with_items_is was c.put_marks.new.marks (omega (arith, a, b)) in
    let new_is : (with_items laid new).items ≡ new = with_items_is laid new (omega (arith, d, e)) in
    let whole = ap (λ (ms : List CodeMark). length ms) new_is in
    let there = ap (λ (ms : List CodeMark). length ms) (c.as_mut_slice-2.ensures.value ∙ laid_is) in
    let first = ap (λ (ms : List CodeMark). length ms) c.as_mut_slice.ensures.value in
    let room = c.requires.room in
    record {
      room = omega (arith, whole, there, first, room, a, d);
      stands = subst (λ (ms : List CodeMark). IsAt ts (marks_of ms) params []) (sym new_is)
          (subst (λ (ns : List Node). IsAt (nodes_of ns) (marks_of new) params []) c.as_slice.ensures.value
          (subst (λ (os : List ℤ). IsAt (nodes_of c.as_slice.result.now) (marks_of new) params os) (values_row _)
          c.put_lasts.ensures.put.stands));
      held = subst (λ (is : List Instance). All IsHeld is)
          (sym (nothing_left c.empty-self.result c.empty-self.ensures)) (All-nil IsHeld);
      braid = c.empty-self-2.ensures.braid;
    }
