use Rattle.plain_scan.proofs.HullRows.{IsFirstRow, first_row, hull_sized}
use Rattle.plain_scan.proofs.hull.hull.Goals as goal
use Rattle.plain_scan.proofs.hull.hull.Goals.{After-row-item}

-- the row that the loop has come to
row : (c : After-row-item)
    → IsFirstRow c.args.depth c.args.place c.args.variables c.args.outlines.now c.row-item.result
row c =
    first_row c.args.depth c.args.place c.args.variables c.args.outlines.now c.index-outlines-0.result
    c.index.result.now c.deref-row-items.result.now c.loop-row.row-index c.row-item.result c.requires.alike
    c.requires.inside c.requires.some c.index.ensures c.deref-row-items.ensures.value c.loop-row-test.true c.row-item.is

pub push_on_open_side-requires-clause-sized : goal.push_on_open_side-requires-clause-sized
push_on_open_side-requires-clause-sized c =
    hull_sized c.args.depth c.args.place c.args.variables c.args.outlines.now c.loop-row.out.items c.requires.inside
    c.loop-row.invariant

pub push_on_open_side-requires-clause-inside : goal.push_on_open_side-requires-clause-inside
push_on_open_side-requires-clause-inside c =
    (row (goal.at.push_on_open_side-requires-clause-inside c).After-row-item).inside

pub push_on_open_side-requires-clause-alike : goal.push_on_open_side-requires-clause-alike
push_on_open_side-requires-clause-alike c =
    (row (goal.at.push_on_open_side-requires-clause-alike c).After-row-item).alike

pub push_on_open_side-requires-clause-small : goal.push_on_open_side-requires-clause-small
push_on_open_side-requires-clause-small c =
    (row (goal.at.push_on_open_side-requires-clause-small c).After-row-item).small

pub loop-row-preserved : goal.loop-row-preserved
loop-row-preserved c =
    (row (goal.at.loop-row-preserved c).After-row-item).stays c.loop-row.out.items c.push_on_open_side.new.out.items
    c.loop-row.invariant c.in_ok-push_on_open_side.ensures.front c.in_ok-push_on_open_side.ensures.rows
