use Rattle.std.proofs.Common.{rules}
use Rattle.wide_math.specs.Checked.{sum_of}
use Rattle.affine_forms.specs.Runs.{added_run, plus_run}
use Rattle.affine_forms.proofs.Exact.{gives-ok, plus_run-exact}
use Rattle.affine_forms.proofs.Values.{plus_run-value}
use Rattle.affine_forms.proofs.form.Form.plus.Goals as goal

pub returns-clause-run : goal.returns-clause-run
unfolding plus_run added_run
returns-clause-run c = c.combined.ensures.run sum_of (λ x y r fits_x fits_y gave. search rules)

pub returns-clause-entries : goal.returns-clause-entries
returns-clause-entries c =
    gives-ok _ _ _ (returns-clause-run c) (λ f. plus_run-exact c.args.self.now c.args.other.now f c.requires)

pub returns-clause-value : goal.returns-clause-value
returns-clause-value c =
    gives-ok _ _ _ (returns-clause-run c) (λ f. plus_run-value c.args.self.now c.args.other.now f c.requires)
