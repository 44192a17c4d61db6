use Rattle.std.proofs.Common.{rules}
use Rattle.affine_forms.specs.Runs.{substitute_run}
use Rattle.affine_forms.proofs.Exact.{substitute_run-exact}
use Rattle.affine_forms.proofs.Values.{substitute_run-value}
use Rattle.affine_forms.proofs.form.Form.substitute.Goals as goal

pub returns-in-Ok-add_scaled-clause-entries : goal.returns-in-Ok-add_scaled-clause-entries
unfolding substitute_run
returns-in-Ok-add_scaled-clause-entries c =
    let h = c.add_scaled.new.self in
    let g = c.args.form.now in
    substitute_run-exact c.args.self.now c.args.variable g h c.requires.form (search rules)

pub returns-in-Ok-add_scaled-clause-value : goal.returns-in-Ok-add_scaled-clause-value
unfolding substitute_run
returns-in-Ok-add_scaled-clause-value c =
    let h = c.add_scaled.new.self in
    let g = c.args.form.now in
    let inside = c.requires.variable in
    substitute_run-value c.args.self.now c.args.variable g h inside c.requires.form (search rules)
