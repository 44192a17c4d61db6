use Rattle.scop_syntax.proofs.Common.{◌≡◌, ◌*◌, ◌^◌, ◌≤◌, drop, ◌+ℤ◌, unsigned_abs}
use Rattle.tile_list.specs.steps.Keys.{carried}
use Rattle.tile_list.proofs.keys.carried_sum.Given as goal

abbrev pub invariant-loop-place : goal.invariant-loop-place
invariant-loop-place l = record {
  sum : l.sum +ℤ carried (drop l.place l.rows) (drop l.place l.tile) ≡ carried l.rows l.tile;
  small : unsigned_abs l.sum ≤ l.place * 2 ^ 63;
}
