use Rattle.std.proofs.Common.{rules, ◌∙◌, sym, arith, pos, get_or, FitsSigned}
use Rattle.std.specs.Int.{w128}
use Rattle.std.proofs.lemmas.Int.{to_z-of_z}
use Rattle.affine_forms.proofs.Steps.{dot_run_from-step, dot_run_from-stop, dot_run_from-end}
use Rattle.affine_forms.proofs.row.dot.Goals as goal

pub returns-in-Err : goal.returns-in-Err
returns-in-Err c =
    let fits_x : FitsSigned w128 (get_or c.args.coefficients.now c.loop-at.at (pos 0)) = search rules in
    let fits_y : FitsSigned w128 (get_or c.args.point.now c.loop-at.at (pos 0)) = search rules in
    let failed = simp to_z-of_z at (sym c.in-Err.ensures) in
    sym (dot_run_from-stop _ c.args.coefficients.now c.args.point.now c.loop-at.at c.in-Err.wide (omega arith)
    (omega arith) failed)
    ∙ c.loop-at.invariant

pub loop-at-preserved : goal.loop-at-preserved
loop-at-preserved c =
    let fits : FitsSigned w128 c.in-Ok.next = search rules in
    let fits_x : FitsSigned w128 (get_or c.args.coefficients.now c.loop-at.at (pos 0)) = search rules in
    let fits_y : FitsSigned w128 (get_or c.args.point.now c.loop-at.at (pos 0)) = search rules in
    let given = simp to_z-of_z at (sym c.in-Ok.ensures) in
    simp to_z-of_z
    (dot_run_from-step _ c.args.coefficients.now c.args.point.now c.loop-at.at c.in-Ok.next (omega arith)
    (omega arith) given
    ∙ c.loop-at.invariant)

pub returns : goal.returns
returns c = sym (dot_run_from-end _ c.args.coefficients.now _ c.loop-at.at (omega arith)) ∙ c.loop-at.invariant
