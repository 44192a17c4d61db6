use Rattle.plain_scan.specs.steps.Shadows.{IsEquality}
use Rattle.plain_scan.proofs.AppendedRows.{equality_at, row_at}
use Rattle.plain_scan.proofs.outline.rows_of.Goals as goal

pub loop-form-preserved : goal.loop-form-preserved
loop-form-preserved c =
    let s = c.args.system.now in
    let all = c.equalities-form-items in
    let h : IsEquality s c.form-item.result =
    equality_at s all.result.now c.loop-form.form-index c.form-item.result c.form-item.is all.ensures.forms
    all.ensures.sized c.loop-form-test.true in
    c.in_ok-push_both.ensures s h c.loop-form.invariant

pub loop-form-2-preserved : goal.loop-form-2-preserved
loop-form-2-preserved c =
    let s = c.args.system.now in
    let all = c.rows-form-items in
    let item = c.form-item-in-loop-form-2 in
    c.in_ok-push_tightest.ensures s
    (row_at s all.result.now c.loop-form-2.form-index item.result item.is all.ensures.forms all.ensures.sized
    c.loop-form-2-test.true) c.loop-form-2.invariant
