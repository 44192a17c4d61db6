use Rattle.whole_numbers.proofs.Common.{◌≡◌, drop}
use Rattle.fractions.specs.Elimination.{chosen, is_positive, is_negative}
use Rattle.fm_projection.specs.Runs.{behind, pairs_run}
use Rattle.fm_projection.proofs.rows.append_pairs.Given as goal

abbrev pub invariant-loop-row : goal.invariant-loop-row
invariant-loop-row l =
    behind l.out.items (pairs_run l.variable (chosen is_positive l.variable (drop l.row-index l.rows))
    (chosen is_negative l.variable l.rows))
    ≡ behind l.fn.out.items
    (pairs_run l.variable (chosen is_positive l.variable l.rows) (chosen is_negative l.variable l.rows))
