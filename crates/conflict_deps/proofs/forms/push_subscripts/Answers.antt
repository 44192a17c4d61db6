use Rattle.conflict_deps.proofs.Common.{◌++◌, equalities_in, same_subscripts}
use Rattle.conflict_deps.proofs.Shapes.{cells_more, cells_all, cells_end}
use Rattle.conflict_deps.proofs.forms.push_subscripts.Goals as goal

pub returns-then-at-second : goal.returns-then-at-second
returns-then-at-second c =
    let d = c.args.loops in
    let e = c.args.others in
    cells_end d e c.args.first.now c.args.second.now c.loop-at.at c.loop-at.out.items
    (c.args.out.now.items ++ equalities_in (same_subscripts d e c.args.first.now c.args.second.now))
    c.loop-at-test.true c.if-at-second.true c.loop-at.invariant

pub loop-at-preserved : goal.loop-at-preserved
loop-at-preserved c =
    cells_more c.args.loops c.args.others c.args.first.now c.args.second.now c.loop-at.at c.index-first-at.result
    c.index-second-at.result c.in_ok-equality.equality c.loop-at.out.items c.push.new.list.items _
    c.loop-at-test.true c.if-at-second.false c.index-first-at.is c.index-second-at.is c.in_ok-equality.ensures
    c.in_ok-push.ensures.pushed c.loop-at.invariant

pub returns : goal.returns
returns c =
    cells_all c.args.loops c.args.others c.args.first.now c.args.second.now c.loop-at.at c.loop-at.out.items _
    c.loop-at-test.false c.loop-at.invariant
