use Rattle.scop_syntax.proofs.Common.{◌∙◌, ap, sym}
use Rattle.plain_scan.specs.Hulls.{sets_in}
use Rattle.split_scan.proofs.OutlineCopies.{staying_next, staying_none}
use Rattle.split_scan.proofs.copies.staying.Goals as goal

pub loop-at-init : goal.loop-at-init
loop-at-init c = ap sets_in c.new-out.ensures.items ∙ sym (staying_none c.args.stays.now)

pub loop-at-preserved : goal.loop-at-preserved
loop-at-preserved c =
    staying_next c.args.stays.now c.args.outlines.now c.loop-at.at c.index-outlines-at.result c.stays_at-stay.result
    (sets_in c.loop-at.out.items) (sets_in c.push_if.new.out.items) c.index-outlines-at.is c.loop-at-test.true
    (sym c.stays_at-stay.ensures) c.in_ok-push_if.ensures c.loop-at.invariant
