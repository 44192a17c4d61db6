use Rattle.scop_syntax.proofs.Common.{◌∙◌, ap, map}
use Rattle.plain_scan.specs.Rows.{low_bound}
use Rattle.plain_scan.specs.Sorting.{lows_in}
use Rattle.plain_scan.proofs.CodeBounds.{low_next, low_end, take_all}
use Rattle.plain_scan.proofs.bounds.low_bounds.Goals as goal

pub loop-row-preserved : goal.loop-row-preserved
loop-row-preserved c =
    low_next c.args.place c.args.rows.now c.loop-row.row-index c.row-item.result c.loop-row.others.items
    c.push_low.new.out.items c.row-item.is c.loop-row-test.true
    c.loop-row.invariant c.in_ok-push_low.ensures

pub returns : goal.returns
returns c =
    low_end c.args.place c.args.first.now c.args.rows.now c.in_ok-first.first c.loop-row.others.items
    c.in_ok-first.ensures (c.loop-row.invariant ∙ ap (λ fs. map (low_bound c.args.place) (lows_in c.args.place fs))
    (take_all c.args.rows.now c.loop-row.row-index c.loop-row-test.false))
