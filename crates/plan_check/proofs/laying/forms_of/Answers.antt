use Rattle.schedule_lines.specs.View.{part_view}
use Rattle.plan_check.specs.Judged.{form_of_part}
use Rattle.plan_check.proofs.GrownLists.{view_more, view_end}
use Rattle.plan_check.proofs.laying.forms_of.Goals as goal

pub loop-part-preserved : goal.loop-part-preserved
loop-part-preserved c =
    view_more form_of_part part_view c.args.parts.now c.loop-part.part-index c.part-item.result c.in-Ok.form
    c.loop-part.found.items c.push.new.list.items _ c.loop-part-test.true c.part-item.is c.in-Ok.ensures
    c.in-Ok-push.ensures.pushed c.loop-part.invariant

pub returns : goal.returns
returns c =
    view_end form_of_part part_view c.args.parts.now c.loop-part.part-index c.loop-part.found.items _
    c.loop-part-test.false c.loop-part.invariant
