use Rattle.whole_numbers.proofs.Common.{map_more}
use Rattle.quast_joins.specs.Shifts.{shifted_form}
use Rattle.quast_joins.proofs.forms.move_forms.Goals as goal

pub loop-form-preserved : goal.loop-form-preserved
loop-form-preserved c =
    map_more (shifted_form c.args.variables c.args.more) c.args.forms.now c.loop-form.form-index c.form-item.result
    c.in-Ok-move_form.form c.loop-form.moved.items c.push.new.list.items _ c.loop-form-test.true c.form-item.is
    c.in-Ok-move_form.ensures c.in-Ok-push.ensures.pushed c.loop-form.invariant
