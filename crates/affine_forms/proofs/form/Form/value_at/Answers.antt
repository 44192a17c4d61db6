use Rattle.std.proofs.Common.{rules}
use Rattle.affine_forms.specs.Runs.{value_run}
use Rattle.affine_forms.proofs.Exact.{value_run-exact}
use Rattle.affine_forms.proofs.form.Form.value_at.Goals as goal

pub returns-in-Ok-add-clause-value : goal.returns-in-Ok-add-clause-value
unfolding value_run
returns-in-Ok-add-clause-value c = value_run-exact c.args.self.now c.args.point.now _ (search rules)
