use Rattle.scop_syntax.proofs.Common.{◌∙◌, ap, map}
use Rattle.plain_scan.specs.Rows.{high_bound}
use Rattle.plain_scan.specs.Sorting.{highs_in}
use Rattle.plain_scan.proofs.CodeBounds.{high_next, high_end, take_all}
use Rattle.plain_scan.proofs.bounds.high_bounds.Goals as goal

pub loop-row-preserved : goal.loop-row-preserved
loop-row-preserved c =
    high_next c.args.place c.args.rows.now c.loop-row.row-index c.row-item.result c.loop-row.others.items
    c.push_high.new.out.items c.row-item.is c.loop-row-test.true
    c.loop-row.invariant c.in_ok-push_high.ensures

pub returns : goal.returns
returns c =
    high_end c.args.place c.args.first.now c.args.rows.now c.in_ok-first.first c.loop-row.others.items
    c.in_ok-first.ensures (c.loop-row.invariant ∙ ap (λ fs. map (high_bound c.args.place) (highs_in c.args.place fs))
    (take_all c.args.rows.now c.loop-row.row-index c.loop-row-test.false))
