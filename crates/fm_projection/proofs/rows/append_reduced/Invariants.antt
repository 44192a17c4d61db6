use Rattle.whole_numbers.proofs.Common.{◌≡◌, drop}
use Rattle.fractions.specs.Elimination.{chosen, is_not_zero}
use Rattle.fm_projection.specs.Runs.{behind, forms_run, reduced_run}
use Rattle.fm_projection.proofs.rows.append_reduced.Given as goal

abbrev pub invariant-loop-form : goal.invariant-loop-form
invariant-loop-form l =
    behind l.out.items (forms_run (reduced_run l.variable l.equality)
    (chosen is_not_zero l.variable (drop l.form-index l.forms)))
    ≡ behind l.fn.out.items (forms_run (reduced_run l.variable l.equality) (chosen is_not_zero l.variable l.forms))
