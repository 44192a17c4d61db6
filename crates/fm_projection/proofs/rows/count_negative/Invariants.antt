use Rattle.whole_numbers.proofs.Common.{◌≡◌, drop, ◌+◌, ◌≤◌, length}
use Rattle.fractions.specs.Elimination.{chosen, is_negative}
use Rattle.fm_projection.proofs.rows.count_negative.Given as goal

abbrev pub invariant-loop-row : goal.invariant-loop-row
invariant-loop-row l =
    (l.count + length (chosen is_negative l.variable (drop l.row-index l.rows))
    ≡ length (chosen is_negative l.variable l.rows)) × (l.count ≤ l.row-index)
