use Rattle.scop_syntax.proofs.Common.{◌≡◌, ◌*◌, ◌^◌, ◌≤◌, drop, pos, ◌+ℤ◌, unsigned_abs}
use Rattle.loop_tree.specs.Tiling.{wave_sum}
use Rattle.tile_edges.proofs.finding.shares.Given as goal

abbrev pub invariant-loop-place : goal.invariant-loop-place
invariant-loop-place l = record {
  sum : l.sum +ℤ wave_sum (pos l.size) (drop l.place l.rows) l.turns ≡ wave_sum (pos l.size) l.rows l.turns;
  small : unsigned_abs l.sum ≤ l.place * 2 ^ 63;
}
