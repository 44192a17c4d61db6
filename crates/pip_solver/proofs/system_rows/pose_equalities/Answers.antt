use Rattle.whole_numbers.proofs.Common.{◌≡◌, ◌∙◌, ◌+◌, ◌++◌, ◌∷◌, [], List, ap, sym, drop, take, drop-cons, add-one}
use Rattle.whole_numbers.proofs.Common.{refl, take-suc, Ok, Affine}
use Rattle.checked_tableau.specs.Emptiness.{equality_rows_run}
use Rattle.pip_solver.proofs.PosedRows.{rows-more, forms-stop}
use Rattle.pip_solver.proofs.system_rows.pose_equalities.Goals as goal

pub loop-form-preserved : goal.loop-form-preserved
loop-form-preserved c =
    let i = c.loop-form.form-index in
    let fs = c.args.forms.now in
    let f = c.form-item.result in
    let item = c.form-item.is in
    let more : take (i + 1) fs ≡ take i fs ++ f ∷ [] =
    rw (add-one i, take-suc fs i f c.loop-form-test.true, ← item) refl in
    ap (λ (gs : List Affine). equality_rows_run gs) more
    ∙ rows-more (take i fs) f c.in-Ok.second c.loop-form.rows.items c.loop-form.invariant c.in-Ok.ensures
    ∙ ap (λ (rs : List Affine). Ok rs) (sym c.in-Ok-push_both.ensures)

pub returns-in-Err : goal.returns-in-Err
returns-in-Err c =
    let i = c.loop-form.form-index in
    let fs = c.args.forms.now in
    let f = c.form-item.result in
    let item = c.form-item.is in
    let next : drop i fs ≡ f ∷ drop (i + 1) fs =
    rw (drop-cons fs i f c.loop-form-test.true, ← item, add-one i) refl in
    forms-stop i fs f c.loop-form.rows.items c.in-Err.stop next c.loop-form.invariant c.in-Err.ensures
