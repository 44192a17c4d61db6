use Rattle.scop_syntax.proofs.Common.{◌≡◌, ◌∙◌, ◌++◌, ℕ, ℤ, [], List, ap, append_assoc, sym, arith, with_items}
use Rattle.scop_syntax.proofs.Common.{with_items_is, IfSome_then, Instance, instance_of}
use Rattle.loop_tree.specs.Braids.{left_of_braid}
use Rattle.loop_tree.specs.Passed.{HasLeft}
use Rattle.loop_tree.specs.Spot.{rest_of}
use Rattle.loop_tree.specs.SpotView.{marks_of}
use Rattle.loop_tree.specs.Stretches.{left_of}
use Rattle.loop_tree.specs.View.{nodes_of}
use Rattle.loop_tree.specs.declared.spot.Mark.{Mark}
use Rattle.loop_tree.specs.declared.tree.Node.{Node}
use Rattle.loop_tree.proofs.spot.Spot.leave.Goals as goal

-- so it is with nothing in front
left_behind : (nodes same : List Node) (was first now last : List Mark) (a b : List Instance) (params : List ℤ)
    (count : ℕ) (x : Instance) → same ≡ nodes → first ≡ was → last ≡ now → a ++ b ≡ []
    → HasLeft (rest_of (nodes_of same) (marks_of first) params []) count x
    (rest_of (nodes_of same) (marks_of now) params [])
    → HasLeft (a ++ (b ++ rest_of (nodes_of nodes) (marks_of was) params [])) count x
    (a ++ (b ++ rest_of (nodes_of nodes) (marks_of last) params []))
left_behind nodes same was first now last a b params count x nodes_are first_is last_is empty left =
    let rest = λ (ns : List Node) (ms : List Mark). rest_of (nodes_of ns) (marks_of ms) params [] in
    let front = λ (is : List Instance). sym (append_assoc a b is) ∙ ap (λ (js : List Instance). js ++ is) empty in
    let old : rest nodes was ≡ rest same first =
    sym (ap (λ (ns : List Node). rest ns first) nodes_are ∙ ap (λ (ms : List Mark). rest nodes ms) first_is) in
    let new : rest same now ≡ rest nodes last =
    ap (λ (ns : List Node). rest ns now) nodes_are ∙ ap (λ (ms : List Mark). rest nodes ms) (sym last_is) in
    record {
      part = left.part;
      run = left.run;
      split = front (rest nodes was)
          ∙ (old ∙ (left.split ∙ ap (λ (is : List Instance). left.part ++ is) (new ∙ sym (front (rest nodes last)))));
    }

pub returns-clause-left : goal.returns-clause-left
returns-clause-left c =
    let spot = c.args.self.now in
    let now = c.leave_nodes.new.marks in
    let room = c.leave_nodes.ensures.room in
    let full = c.as_mut_slice.ensures.len in
    IfSome_then c.leave_nodes.result c.leave_nodes.ensures.left
    (λ p left.
    left_behind c.args.tree.now.nodes.items c.as_slice.result.now spot.marks.items c.as_mut_slice.result.now now
    (with_items spot.marks now).items (left_of spot.stretch) (left_of_braid spot.braid) c.args.params.now p.count
    (instance_of p.last) c.as_slice.ensures.value c.as_mut_slice.ensures.value
    (with_items_is spot.marks now (omega (arith, room, full))) c.requires.spent left)
