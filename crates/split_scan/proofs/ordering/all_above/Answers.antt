use Rattle.scop_syntax.proofs.Common.{take, subst, sym, rules, IsTrue}
use Rattle.plain_scan.proofs.CodeBounds.{take_next}
use Rattle.split_scan.specs.steps.Ordering.{AreBelow, IsBelowAll}
use Rattle.split_scan.proofs.PartOrder.{below_more}
use Rattle.split_scan.proofs.ordering.all_above.Goals as goal

pub loop-other-preserved : goal.loop-other-preserved
loop-other-preserved c =
    let m = c.args.level.now.place in
    let inside = c.args.level.now.inside.items in
    let p = c.args.part.now in
    let ps = c.args.parts.now in
    let i = c.loop-other.other-index in
    let q = c.other-item.result in
    let is_below : IsTrue c.in_ok-is_below.field-0 = search rules in
    let one : AreBelow m inside p.cuts.items q.cuts.items =
    rw (c.deref.ensures.value, c.deref-in-loop-other.ensures.value) at c.in_ok-is_below.ensures is_below in
    subst (IsBelowAll m inside p) (sym (take_next ps i q c.other-item.is c.loop-other-test.true))
    (below_more m inside p (take i ps) q c.loop-other.invariant one)
