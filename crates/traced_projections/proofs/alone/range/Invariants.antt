use Rattle.whole_numbers.proofs.Common.{◌≡◌, ◌-◌, ◌++◌}
use Rattle.fm_projection.specs.Alone.{range_rows}
use Rattle.traced_projections.proofs.alone.range.Given as goal

abbrev pub invariant-loop-place : goal.invariant-loop-place
invariant-loop-place l =
    l.rows.items ++ range_rows l.variables l.place (l.variables - l.place)
    ≡ range_rows l.variables l.first (l.variables - l.first)
