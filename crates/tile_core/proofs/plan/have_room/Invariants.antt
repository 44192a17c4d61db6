use Rattle.scop_syntax.proofs.Common.{◌≡◌, ◌+◌, ◌<◌, ℕ, Some, length, slice_get}
use Rattle.tile_list.specs.declared.list.Tile.{Tile}
use Rattle.tile_core.proofs.plan.have_room.Given as goal

abbrev pub invariant-loop-tile : goal.invariant-loop-tile
invariant-loop-tile l =
    (t : ℕ) (tile : Tile) → t < l.tile-index → slice_get l.list.tiles.items t ≡ Some tile
    → tile.size + length l.edges.targets.items < 18446744073709551616
