-- How far the visits of a tree are cut into tiles.
use Rattle.std.specs.Prelude.{◌≡◌, ℕ, ◌≤◌, ℤ, List, [], ◌∷◌, ◌++◌, length, slice_get, slice_index_or, Some, ◌+◌}
use Rattle.scop_syntax.specs.Members.{In, Sorted}
use Rattle.scop_syntax.specs.View.{instance_of}
use Rattle.scop_syntax.specs.Walk.{Instance}
use Rattle.scop_syntax.specs.declared.instance.Instance.{Instance as CodeInstance}
use Rattle.loop_tree.specs.SpotView.{to_come}
use Rattle.loop_tree.specs.declared.spot.Spot.{Spot}
use Rattle.loop_tree.specs.Tiling.{Tiling}
use Rattle.loop_tree.specs.Tree.{Trees}
use Rattle.loop_tree.specs.Walk.{visits}
use Rattle.tile_list.specs.Tiles.{AreWaves, InOneTile, PartBefore, RiseByTile, TileBefore, joined, start_of}
use Rattle.tile_list.specs.TilesView.{IsTile, firsts_of, waves_of}
use Rattle.tile_list.specs.steps.Keys.{HaveOneWave, IsKeyOf}
use Rattle.tile_list.specs.steps.Offsets.{offsets_from}
use Rattle.tile_list.specs.steps.Placing.{HasCome, IsPlaceBehind}
use Rattle.tile_list.specs.declared.cutting.Cut.{Cut}
use Rattle.tile_list.specs.declared.list.Tile.{Tile}
use Rattle.tile_list.specs.declared.list.TileList.{TileList}
use Rattle.tile_list.specs.declared.place.Front.{Front}

-- the instances are cut into closed parts, one that begins with x and still grows, and the rest
pub record IsCut (tiling : Tiling) (xs : List Instance) (closed : List (List Instance)) (x : Instance)
    (more rest : List Instance) : Type 0 where
  pub all : joined closed ++ (x ∷ (more ++ rest)) ≡ xs
  pub some : (p : List Instance) → In p closed → 1 ≤ length p
  pub one : (p : List Instance) → In p closed → (y z : Instance) → In y p → In z p → InOneTile tiling y z
  pub rise : Sorted (PartBefore tiling) closed
  pub here : (y : Instance) → In y more → InOneTile tiling x y
  pub before : (p : List Instance) → In p closed → (y : Instance) → In y p → TileBefore tiling y x

-- tiles of parts
pub record AreTilesOf (ts : Trees) (params : List ℤ) (parts : List (List Instance)) (tiles : List Tile) : Type 0 where
  pub count : length tiles ≡ length parts
  pub are : (t : ℕ) (tile : Tile) → slice_get tiles t ≡ Some tile
      → IsTile ts params (start_of parts t) (slice_index_or parts t []) tile

-- so far the visits are cut into these tiles, the last of which may still grow
pub record IsCutTo (ts : Trees) (params : List ℤ) (tiling : Tiling) (rest : List Instance) (cut : Cut) : Type 0 where
  pub closed : List (List Instance)
  pub more : List Instance
  pub parts : IsCut tiling (visits ts params) closed (instance_of cut.current.first) more rest
  pub tiles : AreTilesOf ts params closed cut.tiles.items
  pub last : IsTile ts params (length (joined closed)) (instance_of cut.current.first ∷ more) cut.current
  pub waves : AreWaves tiling (firsts_of cut.tiles.items ++ instance_of cut.current.first ∷ [])
      (waves_of cut.tiles.items ++ cut.current.wave ∷ [])
  pub key : IsKeyOf tiling (instance_of cut.current.first) cut.key

-- a tile of one instance
pub record IsNewTile (first : CodeInstance) (front : Front) (spot : Spot) (wave : ℕ) (tile : Tile) : Type 0 where
  pub first_is : tile.first ≡ first
  pub place_is : IsPlaceBehind front spot tile.place
  pub wave_is : tile.wave ≡ wave
  pub size : tile.size ≡ 1

-- the current tile has so many instances more
pub record HasGrown (count : ℕ) (old new : Cut) : Type 0 where
  pub tiles : new.tiles.items ≡ old.tiles.items
  pub first : new.current.first ≡ old.current.first
  pub place : new.current.place ≡ old.current.place
  pub wave : new.current.wave ≡ old.current.wave
  pub size : new.current.size ≡ old.current.size + count
  pub key : new.key ≡ old.key

-- the number of the wave of the next tile
pub record IsWaveOf (cut : Cut) (n : ℕ) : Type 0 where
  pub same : HaveOneWave cut.next cut.key → n ≡ cut.current.wave
  pub other : (HaveOneWave cut.next cut.key → ⊥) → n ≡ cut.current.wave + 1

-- the current tile is at its end, and the next one begins with an instance
pub record HasBegun (first : CodeInstance) (front : Front) (spot : Spot) (old new : Cut) : Type 0 where
  pub tiles : new.tiles.items ≡ old.tiles.items ++ old.current ∷ []
  pub current : (n : ℕ) × IsWaveOf old n × IsNewTile first front spot n new.current
  pub key : new.key ≡ old.next

-- the first of the visits of trees is in its tile
pub record Begins (tiling : Tiling) (x : Instance) (front : Front) (spot : Spot) (cut : Cut) : Type 0 where
  pub cut_is : (ts : Trees) (params : List ℤ) → HasCome ts params front spot
      → visits ts params ≡ x ∷ to_come ts params spot → IsCutTo ts params tiling (to_come ts params spot) cut
  pub key : IsKeyOf tiling x cut.key

-- so is the next one of the visits of trees, which rise by tile
pub record Takes (tiling : Tiling) (x : Instance) (front : Front) (spot : Spot) (old new : Cut) : Type 0 where
  pub cut : (ts : Trees) (params : List ℤ) → RiseByTile tiling (visits ts params) → HasCome ts params front spot
      → IsCutTo ts params tiling (x ∷ to_come ts params spot) old
      → IsCutTo ts params tiling (to_come ts params spot) new
  pub key : IsKeyOf tiling x new.key

-- the list of these tiles, with their offsets
pub record IsListed (tiles : List Tile) (list : TileList) : Type 0 where
  pub tiles_are : list.tiles.items ≡ tiles
  pub offsets_are : list.offsets.items ≡ offsets_from 0 0 (waves_of tiles)
