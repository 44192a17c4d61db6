use Rattle.std.proofs.Common.{rules, FitsSigned}
use Rattle.std.specs.Int.{w128}
use Rattle.std.proofs.lemmas.Int.{to_z-of_z}
use Rattle.wide_math.specs.Checked.{product_of}
use Rattle.affine_forms.specs.Runs.{multiplied_run, scaled_run}
use Rattle.affine_forms.proofs.Steps.{form_run-written}
use Rattle.affine_forms.proofs.form.Form.multiply.Goals as goal

pub returns-in-Err : goal.returns-in-Err
unfolding scaled_run multiplied_run
returns-in-Err c =
    let fits = c.ranges.factor in
    let row = c.map_in_place.ensures (product_of c.args.factor) (λ x r fits_x gave. search rules) in
    search rules

pub returns-in-Err-mul : goal.returns-in-Err-mul
unfolding scaled_run multiplied_run
returns-in-Err-mul c =
    let fits = c.ranges.factor in
    let fits_c : FitsSigned w128 c.self.inside.constant = search rules in
    let row = c.map_in_place.ensures (product_of c.args.factor) (λ x r fits_x gave. search rules) in
    search rules

pub returns-in-Ok-mul : goal.returns-in-Ok-mul
unfolding scaled_run multiplied_run
returns-in-Ok-mul c =
    let fits = c.ranges.factor in
    let fits_c : FitsSigned w128 c.self.inside.constant = search rules in
    let fits_r : FitsSigned w128 c.in-Ok-mul.constant = search rules in
    let row = c.map_in_place.ensures (product_of c.args.factor) (λ x r fits_x gave. search rules) in
    simp to_z-of_z (form_run-written _ _ c.self.inside.coefficients.items c.map_in_place.new.row c.in-Ok-mul.constant
    (search rules) (search rules) (search rules))
