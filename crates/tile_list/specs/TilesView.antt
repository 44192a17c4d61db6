-- The tiles that the code's list stands for.
use Rattle.std.specs.Prelude.{◌≡◌, ℕ, suc, ℤ, List, [], length, map, slice_get, slice_index_or, Some, drop}
use Rattle.scop_syntax.specs.Walk.{Instance}
use Rattle.scop_syntax.specs.View.{instance_of}
use Rattle.loop_tree.specs.Bookmarks.{IsBookmarkOf, to_come_from}
use Rattle.loop_tree.specs.SpotView.{IsSpotOf, to_come}
use Rattle.loop_tree.specs.Tiling.{Tiling}
use Rattle.loop_tree.specs.Tree.{Trees}
use Rattle.loop_tree.specs.Walk.{visits}
use Rattle.tile_list.specs.Tiles.{AreOffsets, AreTiles, AreWaves, start_of}
use Rattle.tile_list.specs.declared.list.Tile.{Tile}
use Rattle.tile_list.specs.declared.list.TileList.{TileList}
use Rattle.tile_list.specs.declared.place.Place.{Place}
use Rattle.tile_list.specs.declared.place.Place.TheVariants.{Before, Behind}

-- the place of a tile of trees
abbrev pub IsPlaceOf : Trees → List ℤ → Place → Type 0
IsPlaceOf ts params (Before steps) = IsBookmarkOf ts params steps.items
IsPlaceOf ts params (Behind spot) = IsSpotOf ts params spot.value

-- the instances that are still to come behind its first one
abbrev pub to_come_at : Trees → List ℤ → Place → List Instance
to_come_at ts params (Before steps) = drop 1 (to_come_from ts params steps.items)
to_come_at ts params (Behind spot) = to_come ts params spot.value

-- the tile of a part of the visits that begins at visit number k: its first instance, how many it has, and its place
pub record IsTile (ts : Trees) (params : List ℤ) (k : ℕ) (part : List Instance) (tile : Tile) : Type 0 where
  pub first : slice_get part 0 ≡ Some (instance_of tile.first)
  pub size : tile.size ≡ length part
  pub place : IsPlaceOf ts params tile.place
  pub behind : to_come_at ts params tile.place ≡ drop (suc k) (visits ts params)

-- the numbers of the tiles' waves
abbrev pub waves_of : List Tile → List ℕ
waves_of tiles = map (λ t. t.wave) tiles

-- their first instances
abbrev pub firsts_of : List Tile → List Instance
firsts_of tiles = map (λ t. instance_of t.first) tiles

-- the list has the tiles of the visits of trees, for these parameters
pub record IsTileListOf (ts : Trees) (params : List ℤ) (tiling : Tiling) (list : TileList) : Type 0 where
  pub parts : List (List Instance)
  pub cut : AreTiles tiling (visits ts params) parts
  pub count : length list.tiles.items ≡ length parts
  pub tiles : (t : ℕ) (tile : Tile) → slice_get list.tiles.items t ≡ Some tile
      → IsTile ts params (start_of parts t) (slice_index_or parts t []) tile
  pub waves : AreWaves tiling (firsts_of list.tiles.items) (waves_of list.tiles.items)
  pub offsets : AreOffsets (waves_of list.tiles.items) list.offsets.items
