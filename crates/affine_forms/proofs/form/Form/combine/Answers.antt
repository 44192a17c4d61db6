use Rattle.std.proofs.Common.{rules, ◌∙◌, ap, ap₂, sym, FitsSigned}
use Rattle.std.specs.Int.{w128}
use Rattle.std.proofs.lemmas.Int.{to_z-of_z}
use Rattle.affine_forms.specs.Runs.{form_run, zip_run, combined_run}
use Rattle.affine_forms.proofs.form.Form.combine.Goals as goal

pub returns-in-Err : goal.returns-in-Err
returns-in-Err g c = λ run same.
    ap₂ (combined_run run) (sym c.self.view_is) (sym c.other.view_is)
    ∙ ap (λ r. form_run r (run c.self.inside.constant c.other.inside.constant))
    (ap₂ (zip_run run) (sym c.as_mut_slice.ensures.value) (sym c.as_slice.ensures) ∙ c.in-Err.ensures run same)

pub returns-in-Err-step : goal.returns-in-Err-step
returns-in-Err-step g c = λ run same.
    let fits : FitsSigned w128 c.self.inside.constant = search rules in
    let fits_other : FitsSigned w128 c.other.inside.constant = search rules in
    let told = same _ _ c.step.result fits fits_other (simp to_z-of_z at c.step.ensures) in
    ap₂ (combined_run run) (sym c.self.view_is) (sym c.other.view_is)
    ∙ ap₂ form_run (ap₂ (zip_run run) (sym c.as_mut_slice.ensures.value) (sym c.as_slice.ensures)
    ∙ c.in-Ok.ensures run same) (sym told ∙ c.in-Err-step.is)
