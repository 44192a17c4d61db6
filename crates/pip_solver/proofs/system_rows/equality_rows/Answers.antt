use Rattle.whole_numbers.proofs.Common.{rules, subst, refl, List, Err, Affine}
use Rattle.affine_forms.specs.declared.stop.FormStop.{FormStop}
use Rattle.pip_solver.specs.Promises.{FormedUntil}
use Rattle.pip_solver.specs.steps.Promises.{Forms}
use Rattle.pip_solver.proofs.Decisions.{unposed}
use Rattle.pip_solver.proofs.system_rows.equality_rows.Goals as goal

pub returns-in-Err-Wide-clause-formed : goal.returns-in-Err-Wide-clause-formed
returns-in-Err-Wide-clause-formed c =
    let s = c.args.system.now in
    let w = c.in-Err-Wide.field-0-0 in
    let rows = c.pose_equalities.new.rows.items in
    let until : FormedUntil w s.equalities rows =
    subst (λ (fs : List Affine). FormedUntil w fs rows) c.equalities.ensures.forms
    (subst (λ (e : FormStop). Forms {U = Unit {0}} (Err e) c.equalities.result.now rows) c.in-Err-Wide.field-0-is
    c.in-Err-Wide.ensures) in (
      w,
      unposed s w rows until,
      record { unknowns = c.requires; parameters = refl; rows = until; context = search rules },
      refl,
    )
