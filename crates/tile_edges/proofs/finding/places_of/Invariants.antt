use Rattle.scop_syntax.proofs.Common.{◌≡◌, ℕ, Some, length, slice_get, instance_of}
use Rattle.loop_tree.specs.TilingView.{tiling_of}
use Rattle.tile_list.specs.declared.list.Tile.{Tile}
use Rattle.tile_edges.specs.steps.Finding.{IsPlaceOf}
use Rattle.tile_edges.specs.declared.finding.Place.{Place}
use Rattle.tile_edges.proofs.finding.places_of.Given as goal

abbrev pub invariant-loop-tile : goal.invariant-loop-tile
invariant-loop-tile l = record {
  count : length l.places.items ≡ l.tile-index;
  each : (t : ℕ) (a : Tile) (p : Place) → slice_get l.tiles t ≡ Some a → slice_get l.places.items t ≡ Some p
      → IsPlaceOf (tiling_of l.tiling) (instance_of a.first) p;
}
