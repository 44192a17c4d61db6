use Rattle.whole_numbers.proofs.Common.{◌≡◌, ◌-◌, ◌++◌, List, Affine}
use Rattle.fm_projection.specs.Alone.{range_rows}
use Rattle.fm_projection.proofs.alone.append_range.Given as goal

abbrev pub invariant-loop-place : goal.invariant-loop-place
invariant-loop-place l =
    (done : List Affine) × (l.rows.items ≡ l.fn.rows.items ++ done)
    × (done ++ range_rows l.variables l.place (l.variables - l.place)
    ≡ range_rows l.variables l.first (l.variables - l.first))
