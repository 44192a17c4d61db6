use Rattle.scop_syntax.proofs.Common.{◌∙◌, ap}
use Rattle.plain_scan.proofs.CodeBounds.{take_all}
use Rattle.split_scan.specs.steps.Copies.{bounding_in}
use Rattle.split_scan.proofs.HullBounds.{bounding_next}
use Rattle.split_scan.proofs.bars.bounding.Goals as goal

pub loop-row-preserved : goal.loop-row-preserved
loop-row-preserved c =
    bounding_next c.args.place c.args.rows.now c.loop-row.row-index c.row-item.result c.loop-row.out.items
    c.push_bounding.new.out.items c.row-item.is c.loop-row-test.true c.loop-row.invariant c.in_ok-push_bounding.ensures

pub returns : goal.returns
returns c =
    c.loop-row.invariant
    ∙ ap (bounding_in c.args.place) (take_all c.args.rows.now c.loop-row.row-index c.loop-row-test.false)
