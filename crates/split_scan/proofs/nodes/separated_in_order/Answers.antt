use Rattle.scop_syntax.proofs.Common.{sym, subst, All, IfOk-weaker}
use Rattle.plain_scan.specs.Hulls.{sets_in}
use Rattle.split_scan.proofs.OutlineCopies.{sets_count}
use Rattle.split_scan.specs.steps.Parts.{HasMarks}
use Rattle.split_scan.proofs.nodes.separated_in_order.Goals as goal

pub ordered-requires : goal.ordered-requires
ordered-requires c = λ k d inside j e here. ((c.in_ok-parts.ensures.parts k d inside).cuts j e here).sized

pub returns : goal.returns
returns c =
    let os = c.args.outlines.now in
    let parts = c.in_ok-parts.ensures in
    let marks = subst (λ i. All (HasMarks i) c.in_ok-parts.parts.items) (sym (sets_count os)) parts.marks in
    IfOk-weaker c.ordered.result _ _ (λ v h. h (sets_in os) parts.parts marks
    (λ params outer x at r key. parts.enough params outer x at)) c.ordered.ensures
