use Rattle.std.proofs.Common.{rules}
use Rattle.affine_forms.proofs.Exact.{scaled_run-exact}
use Rattle.affine_forms.proofs.Values.{scaled_run-value}
use Rattle.affine_forms.proofs.form.Form.scaled.Goals as goal

pub returns-in-Ok-multiply-clause-entries : goal.returns-in-Ok-multiply-clause-entries
returns-in-Ok-multiply-clause-entries c =
    scaled_run-exact c.args.factor c.args.self.now c.multiply.new.self (search rules)

pub returns-in-Ok-multiply-clause-value : goal.returns-in-Ok-multiply-clause-value
returns-in-Ok-multiply-clause-value c =
    scaled_run-value c.args.factor c.args.self.now c.multiply.new.self (search rules)
