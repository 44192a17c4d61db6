use Rattle.scop_syntax.proofs.Common.{get_or, get_or_default}
use Rattle.plan_check.specs.Judged.{term_named}
use Rattle.plan_check.specs.TextView.{term_view}
use Rattle.plan_check.proofs.GrownLists.{view_more, view_end}
use Rattle.plan_check.proofs.proving.terms_of.Goals as goal

pub loop-term-preserved : goal.loop-term-preserved
loop-term-preserved c =
    let l = c.loop-term in
    let terms = c.args.terms.now in
    view_more term_named term_view terms l.term-index (get_or terms l.term-index _) c.in-Ok.term l.found.items
    c.push.new.list.items _ c.loop-term-test.true (get_or_default terms l.term-index _ _ c.loop-term-test.true)
    c.in-Ok.ensures c.in-Ok-push.ensures.pushed l.invariant

pub returns : goal.returns
returns c =
    view_end term_named term_view c.args.terms.now c.loop-term.term-index c.loop-term.found.items _
    c.loop-term-test.false c.loop-term.invariant
