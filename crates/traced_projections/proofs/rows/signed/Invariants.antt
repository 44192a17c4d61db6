use Rattle.whole_numbers.proofs.Common.{◌≡◌, ◌++◌, drop}
use Rattle.traced_projections.specs.Tracing.{signed}
use Rattle.traced_projections.proofs.rows.signed.Given as goal

abbrev pub invariant-loop-row : goal.invariant-loop-row
invariant-loop-row l =
    l.out.items ++ signed l.sign l.variable (drop l.row-index l.rows) ≡ signed l.sign l.variable l.rows
