use Rattle.scop_syntax.proofs.Common.{◌≡◌, ◌<◌, ℕ, Some, length, slice_get}
use Rattle.tile_core.specs.Ranks.{sizes_of, start_at}
use Rattle.tile_core.proofs.expansion.starts_of.Given as goal

abbrev pub invariant-loop-tile : goal.invariant-loop-tile
invariant-loop-tile l = record {
  many : length l.starts.items ≡ l.tile-index;
  start : l.start ≡ start_at (sizes_of l.tiles) l.tile-index;
  starts : (t : ℕ) → t < l.tile-index → slice_get l.starts.items t ≡ Some (start_at (sizes_of l.tiles) t);
}
