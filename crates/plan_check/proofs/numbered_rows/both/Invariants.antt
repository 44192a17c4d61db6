use Rattle.scop_syntax.proofs.Common.{◌≡◌, drop}
use Rattle.plan_check.specs.Progress.{behind_run, both_run}
use Rattle.plan_check.proofs.numbered_rows.both.Given as goal

abbrev pub invariant-loop-form : goal.invariant-loop-form
invariant-loop-form l = behind_run l.rows.items (both_run (drop l.form-index l.equalities)) ≡ both_run l.equalities
