use Rattle.whole_numbers.proofs.Common.{◌≡◌, ◌∙◌, List, Vec, Global, ℕ, ap, sym}
use Rattle.scop_syntax.specs.Reductions.{is_reduced, marks_from}
use Rattle.scop_syntax.specs.View.{program_of}
use Rattle.scop_syntax.specs.Tree.{Statement}
use Rattle.scop_syntax.specs.declared.standings.Standing.{Standing}
use Rattle.scop_syntax.specs.StandingView.{bodies_of}
use Rattle.scop_syntax.proofs.Marked.{bodies_are, next_mark, next_not_marked, no_more}
use Rattle.scop_syntax.proofs.marking.marked_arrays.Goals as goal
use Rattle.scop_syntax.proofs.marking.marked_arrays.Goals.{then-is_only_added_to+in_ok-push, else-is_only_added_to}

pub loop-number-preserved : goal.loop-number-preserved
loop-number-preserved c =
    let k = c.loop-number.number in
    let d = c.array-item.result in
    let ss = bodies_of c.in_ok-statements.statements.items in
    let tells : c.is_only_added_to.result ≡ is_reduced ss k d =
    c.is_only_added_to.ensures
    ∙ ap (λ (vs : List Standing). is_reduced (bodies_of vs) k d) c.deref.ensures.value in
    elim c.if-is_only_added_to.branch [
      | then-is_only_added_to+in_ok-push w ↦
          next_mark ss c.deref-array-items.result.now k d c.array-item.is c.loop-number-test.true
          c.loop-number.marked.items c.if-is_only_added_to.marked.items (sym tells ∙ w.if-is_only_added_to.true)
          (ap (λ (v : Vec ℕ Global). v.items) w.marked-is ∙ w.in_ok-push.ensures.items)
          ∙ c.loop-number.invariant
      | else-is_only_added_to w ↦
          next_not_marked ss c.deref-array-items.result.now k d c.array-item.is c.loop-number-test.true
          c.loop-number.marked.items c.if-is_only_added_to.marked.items (sym tells ∙ w.if-is_only_added_to.false)
          (ap (λ (v : Vec ℕ Global). v.items) w.marked-is)
          ∙ c.loop-number.invariant
    ]

pub returns : goal.returns
returns c =
    let ss = bodies_of c.in_ok-statements.statements.items in
    let ds = c.deref-array-items.result.now in
    let end = no_more ss ds c.loop-number.number c.loop-number-test.false c.loop-number.marked.items in
    sym end ∙ (c.loop-number.invariant
    ∙ (ap (marks_from ss 0) c.deref-array-items.ensures.value
    ∙ ap (λ (bs : List Statement). marks_from bs 0 c.args.kernel.now.arrays.items)
    (bodies_are c.in_ok-statements.statements.items (program_of c.args.kernel.now) c.in_ok-statements.ensures)))
