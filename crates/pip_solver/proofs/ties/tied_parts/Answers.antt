use Rattle.whole_numbers.proofs.Common.{◌∙◌, ap, sym, subst, FitsSigned, Err, Ok, w128, to_z-of_z}
use Rattle.wide_math.specs.declared.Wide.{Wide}
use Rattle.affine_forms.specs.Gives.{Fails}
use Rattle.affine_forms.specs.declared.stop.FormStop.{FormStop}
use Rattle.checked_tableau.specs.Moves.{row_at}
use Rattle.pip_solver.specs.steps.Cuts.{ties_run}
use Rattle.pip_solver.proofs.NodeMoves.{parts-err, tied-run}
use Rattle.pip_solver.proofs.ties.tied_parts.Goals as goal

pub returns-in-Err : goal.returns-in-Err
returns-in-Err c =
    let t = c.args.rows.now in
    parts-err t (row_at t.rows c.args.row) c.args.divisor c.args.form.now c.in-Err.stop c.in-Err.ensures

pub returns-in-Err-Wide : goal.returns-in-Err-Wide
returns-in-Err-Wide c =
    let t = c.args.rows.now in
    let f = c.args.form.now in
    let d = c.args.divisor in
    let fd : FitsSigned w128 d = c.ranges.divisor in
    let told = simp to_z-of_z at c.in-Err-Wide.ensures in
    let failed = subst (λ (e : FormStop). Fails e (ties_run d f)) c.in-Err-Wide.field-0-is told in
    tied-run t.unknowns t.parameters (row_at t.rows c.args.row) c.in-Ok.ensures.0 d f (Err c.in-Err-Wide.wide)
    c.in-Ok.ensures.1 failed
    ∙ ap (λ (w : Wide). Err w) (sym c.in-Err-Wide.wide-is)

pub returns : goal.returns
returns c =
    let t = c.args.rows.now in
    let f = c.args.form.now in
    let d = c.args.divisor in
    let fd : FitsSigned w128 d = c.ranges.divisor in
    let told = simp to_z-of_z at c.in-Ok-ties.ensures in
    let is = c.in-Ok.ensures in (
      is.0,
      tied-run t.unknowns t.parameters (row_at t.rows c.args.row) is.0 d f (Ok (c.in-Ok-ties.low, c.in-Ok-ties.high))
          is.1 told,
      is.2,
    )
