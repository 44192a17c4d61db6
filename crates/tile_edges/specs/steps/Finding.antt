-- Which tile of a list an instance lies in, by lists of numbers.
use Rattle.std.specs.Prelude.{◌≡◌, ℕ, ◌<◌, ◌≤◌, Bool, true, false, List, length, slice_get, Some}
use Rattle.std.specs.Cmp.Lexicographic.{slice_cmp}
use Rattle.std.specs.Ordering.{int_cmp, match_ordering}
use Rattle.scop_syntax.specs.View.{instance_of}
use Rattle.scop_syntax.specs.Walk.{Instance}
use Rattle.loop_tree.specs.Tiling.{Tiling, tile_of, wave_of}
use Rattle.tile_list.specs.Tiles.{RowsFit, TileBefore}
use Rattle.tile_list.specs.declared.list.Tile.{Tile}
use Rattle.tile_list.specs.declared.list.TileList.{TileList}
use Rattle.tile_edges.specs.Edges.{IsTileOf}
use Rattle.tile_edges.specs.declared.finding.Finder.{Finder}
use Rattle.tile_edges.specs.declared.finding.Place.{Place}

-- the lists are the wave and the tile of the instance
pub record IsPlaceOf (tiling : Tiling) (x : Instance) (place : Place) : Type 0 where
  pub wave : place.wave.items ≡ wave_of tiling x
  pub tile : place.tile.items ≡ tile_of tiling x

-- whether the first comes before the second
abbrev pub comes_before : Place → Place → Bool
comes_before p q =
    match_ordering (slice_cmp int_cmp p.wave.items q.wave.items) true
    (match_ordering (slice_cmp int_cmp p.tile.items q.tile.items) true false false) false

-- among places, this is the last one that the place does not come before
pub record Stands (places : List Place) (place : Place) (t : ℕ) : Type 0 where
  pub within : t < length places
  pub past : (u : ℕ) (q : Place) → slice_get places u ≡ Some q → t < u → comes_before place q ≡ true
  pub reached : (u : ℕ) (q : Place) → slice_get places u ≡ Some q → u ≤ t → comes_before place q ≡ false

-- those of the first instances of tiles
pub record ArePlacesOf (tiling : Tiling) (tiles : List Tile) (places : List Place) : Type 0 where
  pub count : length places ≡ length tiles
  pub each : (t : ℕ) (tile : Tile) (place : Place) → slice_get tiles t ≡ Some tile → slice_get places t ≡ Some place
      → IsPlaceOf tiling (instance_of tile.first) place

-- tiles rise
abbrev pub TilesRise : Tiling → List Tile → Type 0
TilesRise tiling tiles =
    (t u : ℕ) (a b : Tile) → slice_get tiles t ≡ Some a → slice_get tiles u ≡ Some b → t < u
    → TileBefore tiling (instance_of a.first) (instance_of b.first)

-- the rows of their first instances fit
abbrev pub FirstsFit : Tiling → List Tile → Type 0
FirstsFit tiling tiles = (t : ℕ) (tile : Tile) → slice_get tiles t ≡ Some tile → RowsFit tiling (instance_of tile.first)

-- some tile is that of the instance
abbrev pub HasTileOf : Tiling → TileList → Instance → Type 0
HasTileOf tiling list x = (t : ℕ) × IsTileOf tiling list t x

-- the places are those of the tiles, and the tile found last is one of them, if there are any
pub record IsFinder (tiling : Tiling) (list : TileList) (finder : Finder) : Type 0 where
  pub places : ArePlacesOf tiling list.tiles.items finder.places.items
  pub at : 0 < length list.tiles.items → finder.at < length list.tiles.items
