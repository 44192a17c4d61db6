use Rattle.plan_check.specs.Derivations.{fault_of}
use Rattle.plan_check.proofs.GrownLists.{both_stops, both_more, both_end}
use Rattle.plan_check.proofs.numbered_rows.both.Goals as goal

pub returns-in-Err : goal.returns-in-Err
returns-in-Err c =
    both_stops c.args.equalities.now c.loop-form.form-index c.form-item.result (fault_of c.in-Err.stop)
    c.loop-form.rows.items _ c.loop-form-test.true c.form-item.is c.in-Err.ensures c.loop-form.invariant

pub loop-form-preserved : goal.loop-form-preserved
loop-form-preserved c =
    both_more c.args.equalities.now c.loop-form.form-index c.form-item.result c.in-Ok.opposite c.loop-form.rows.items
    c.push_both.new.rows.items _ c.loop-form-test.true c.form-item.is c.in-Ok.ensures c.in-Ok-push_both.ensures
    c.loop-form.invariant

pub returns : goal.returns
returns c =
    both_end c.args.equalities.now c.loop-form.form-index c.loop-form.rows.items _ c.loop-form-test.false
    c.loop-form.invariant
