-- What holds at all that is left of stretches, and how a spot goes on along them.
use Rattle.std.specs.Prelude.{◌≤◌, ℤ, List, length}
use Rattle.scop_syntax.specs.Members.{In}
use Rattle.scop_syntax.specs.Walk.{Instance}
use Rattle.loop_tree.specs.SpotView.{IsSpotOf, to_come}
use Rattle.loop_tree.specs.Stretches.{left_of}
use Rattle.loop_tree.specs.Tiling.{Tiling}
use Rattle.loop_tree.specs.Tree.{Trees}
use Rattle.loop_tree.specs.declared.spot.Spot.{Spot}
use Rattle.loop_tree.specs.declared.stretch.Stretch.{Stretch}
use Rattle.tile_list.specs.Tiles.{RowsFit}
use Rattle.tile_list.specs.steps.Cutting.{IsCutTo}
use Rattle.tile_list.specs.steps.Keys.{IsKeyOf}
use Rattle.tile_list.specs.declared.cutting.Cut.{Cut}
use Rattle.tile_list.specs.declared.keys.Key.{Key}

-- the rows fit at each of these instances
abbrev pub AllFit : Tiling → List Instance → Type 0
AllFit tiling xs = (x : Instance) → In x xs → RowsFit tiling x

-- at each instance that is left of a stretch
abbrev pub AllRowsFit : Tiling → Stretch → Type 0
AllRowsFit tiling s = AllFit tiling (left_of s)

-- a key is that of each instance that is left of a stretch
abbrev pub AllHaveKey : Tiling → Key → Stretch → Type 0
AllHaveKey tiling key s = (y : Instance) → In y (left_of s) → IsKeyOf tiling y key

-- the spot has gone on, and what it passed is in the tiles
pub record Passes (tiling : Tiling) (passed spot : Spot) (old new : Cut) : Type 0 where
  pub spots : (ts : Trees) (params : List ℤ) → IsSpotOf ts params passed → IsSpotOf ts params spot
  pub fewer : (ts : Trees) (params : List ℤ) → length (to_come ts params spot) ≤ length (to_come ts params passed)
  pub cut : (ts : Trees) (params : List ℤ) → IsCutTo ts params tiling (to_come ts params passed) old
      → IsCutTo ts params tiling (to_come ts params spot) new

-- the spot has gone on in these trees, and what it passed is in the tiles
pub record GoesOn (ts : Trees) (params : List ℤ) (tiling : Tiling) (passed spot : Spot) (cut : Cut) : Type 0 where
  pub spot_is : IsSpotOf ts params spot
  pub fewer : length (to_come ts params spot) ≤ length (to_come ts params passed)
  pub cut_is : IsCutTo ts params tiling (to_come ts params spot) cut
