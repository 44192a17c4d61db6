use Rattle.whole_numbers.proofs.Common.{◌≡◌, drop}
use Rattle.fractions.specs.Elimination.{chosen, is_negative}
use Rattle.fm_projection.specs.Runs.{behind, forms_run, pair_run}
use Rattle.fm_projection.proofs.rows.append_pairs_with.Given as goal

abbrev pub invariant-loop-row : goal.invariant-loop-row
invariant-loop-row l =
    behind l.out.items (forms_run (pair_run l.variable l.upper)
    (chosen is_negative l.variable (drop l.row-index l.rows)))
    ≡ behind l.fn.out.items (forms_run (pair_run l.variable l.upper) (chosen is_negative l.variable l.rows))
