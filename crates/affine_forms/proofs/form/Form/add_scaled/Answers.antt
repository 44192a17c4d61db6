use Rattle.std.proofs.Common.{rules}
use Rattle.affine_forms.specs.Runs.{added_multiple_run, multiply_add_run, plus_multiple_run}
use Rattle.affine_forms.proofs.form.Form.add_scaled.Goals as goal

pub returns : goal.returns
unfolding plus_multiple_run added_multiple_run
returns c =
    let fits = c.ranges.factor in
    c.combine.ensures (λ x y. multiply_add_run x c.args.factor y) (λ x y r fits_x fits_y gave. search rules)
