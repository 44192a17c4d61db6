use Rattle.std.proofs.Common.{rules, ◌≡◌, ◌∙◌, sym, arith, FitsSigned, get_or, pos, Ok, Err}
use Rattle.std.specs.Int.{w128}
use Rattle.std.proofs.lemmas.Int.{to_z-of_z}
use Rattle.affine_forms.proofs.Steps.{zip_run-step, zip_run-stop, zip_run-end}
use Rattle.affine_forms.proofs.row.zip_in_place.Goals as goal

pub returns-in-Err : goal.returns-in-Err
returns-in-Err g c = λ run same.
    let fits_x : FitsSigned w128 (get_or c.loop-at.row c.loop-at.at (pos 0)) = search rules in
    let fits_y : FitsSigned w128 (get_or c.args.other.now c.loop-at.at (pos 0)) = search rules in
    let told = same _ _ c.step.result fits_x fits_y (simp to_z-of_z at c.step.ensures) in
    let failed : run (get_or c.loop-at.row c.loop-at.at (pos 0)) (get_or c.args.other.now c.loop-at.at (pos 0))
    ≡ Err c.in-Err.wide = search rules in
    sym (c.loop-at.invariant run same)
    ∙ zip_run-stop run c.loop-at.row c.args.other.now c.loop-at.at c.in-Err.wide (omega arith) (omega arith) failed

pub loop-at-preserved : goal.loop-at-preserved
loop-at-preserved g c = λ run same.
    let fits : FitsSigned w128 c.in-Ok.next = search rules in
    let fits_x : FitsSigned w128 (get_or c.loop-at.row c.loop-at.at (pos 0)) = search rules in
    let fits_y : FitsSigned w128 (get_or c.args.other.now c.loop-at.at (pos 0)) = search rules in
    let told = same _ _ c.step.result fits_x fits_y (simp to_z-of_z at c.step.ensures) in
    let given : run (get_or c.loop-at.row c.loop-at.at (pos 0)) (get_or c.args.other.now c.loop-at.at (pos 0))
    ≡ Ok c.in-Ok.next = search rules in
    simp to_z-of_z
    (zip_run-step run c.loop-at.row c.args.other.now c.loop-at.at c.in-Ok.next (omega arith) (omega arith) given
    ∙ c.loop-at.invariant run same)

pub returns : goal.returns
returns g c = λ run same.
    sym (c.loop-at.invariant run same) ∙ zip_run-end run c.loop-at.row _ c.loop-at.at (omega arith)
