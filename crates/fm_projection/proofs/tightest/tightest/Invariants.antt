use Rattle.whole_numbers.proofs.Common.{◌≡◌, drop}
use Rattle.fm_projection.specs.Tightest.{with_rows, tightest}
use Rattle.fm_projection.proofs.tightest.tightest.Given as goal

abbrev pub invariant-loop-row : goal.invariant-loop-row
invariant-loop-row l = with_rows l.out.items (drop l.row-index l.rows) ≡ tightest l.rows
