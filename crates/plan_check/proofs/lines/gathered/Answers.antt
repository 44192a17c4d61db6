use Rattle.plan_check.proofs.GrownLists.{named_stops, named_more, named_end}
use Rattle.plan_check.proofs.lines.gathered.Goals as goal

pub returns-in-None : goal.returns-in-None
returns-in-None c =
    let l = c.loop-term in
    named_stops c.args.rows.now c.args.terms.now l.term-index _ l.found.items _ c.loop-term-test.true c.in-None.ensures
    l.invariant

pub loop-term-preserved : goal.loop-term-preserved
loop-term-preserved c =
    let l = c.loop-term in
    named_more c.args.rows.now c.args.terms.now l.term-index _ c.in-Some.row.now l.found.items
    c.push_copy.new.forms.items _ c.loop-term-test.true c.in-Some.ensures c.in-Ok.ensures l.invariant

pub returns : goal.returns
returns c =
    named_end c.args.rows.now c.args.terms.now c.loop-term.term-index c.loop-term.found.items _ c.loop-term-test.false
    c.loop-term.invariant
