use Rattle.whole_numbers.proofs.Common.{◌∙◌, drop, ◌+◌}
use Rattle.fm_projection.proofs.Loops.{ahead, lowered}
use Rattle.fm_projection.proofs.rows.append_lowest.Goals as goal

pub loop-form-preserved : goal.loop-form-preserved
loop-form-preserved c =
    let k = c.loop-form.form-index in
    let f = c.form-item.result in
    let next = ahead k c.args.forms.now f c.loop-form-test.true c.form-item.is in
    lowered c.loop-form.out.items c.append_copy.new.out.items f (drop (k + 1) c.args.forms.now)
    c.in_ok-append_copy.ensures
    ∙ (rw next at c.loop-form.invariant)
