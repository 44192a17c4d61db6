-- What lies ahead along a stretch.
use Rattle.std.specs.Prelude.{ℕ, ◌-◌, ◌≤◌, ℤ, Bool, List, [], ◌++◌, take}
use Rattle.scop_syntax.specs.Tree.{Program}
use Rattle.scop_syntax.specs.View.{instance_of}
use Rattle.scop_syntax.specs.Walk.{Instance}
use Rattle.loop_tree.specs.Braids.{left_of_braid}
use Rattle.loop_tree.specs.Spot.{rest_of}
use Rattle.loop_tree.specs.SpotView.{IsSpotOf, marks_in, to_come}
use Rattle.loop_tree.specs.Stretches.{following}
use Rattle.loop_tree.specs.Tiling.{Tiling}
use Rattle.loop_tree.specs.Tree.{Trees}
use Rattle.loop_tree.specs.declared.spot.Spot.{Spot}
use Rattle.loop_tree.specs.declared.stretch.Stretch.{Stretch}
use Rattle.tile_table.specs.Desks.{HasRoomForAll}
use Rattle.tile_table.specs.declared.table.Table.{Table}
use Rattle.tile_list.specs.Stretches.{turns_on}
use Rattle.tile_list.specs.declared.list.TileList.{TileList}
use Rattle.tile_edges.specs.Edges.{IsTileOf}
use Rattle.tile_edges.specs.steps.Finding.{IsFinder}
use Rattle.tile_edges.specs.steps.Walks.{IsOnItsWay}
use Rattle.tile_edges.specs.declared.walking.Pass.{Pass}

-- the steps of a stretch
abbrev pub steps_in : Stretch → List ℤ
steps_in s = take s.before.loops s.steps

-- the turns so many instances on
abbrev pub turns_in : Stretch → ℕ → List ℤ
turns_in s j = turns_on (instance_of s.before).turns (steps_in s) j

-- the instance there
abbrev pub moved_on : Stretch → ℕ → Instance
moved_on s j = record { number = s.before.statement; turns = turns_in s j }

-- what is left behind it
abbrev pub left_on : Stretch → ℕ → List Instance
left_on s j = following s.before.statement (turns_in s j) (steps_in s) (s.left - j)

-- and what is still to come of trees
abbrev pub to_come_on : Trees → List ℤ → Spot → ℕ → List Instance
to_come_on ts params spot j =
    left_on spot.stretch j ++ (left_of_braid spot.braid ++ rest_of ts (marks_in spot) params [])

-- the next instances of a stretch, so many of them, lie in one tile
abbrev pub LieIn : Tiling → TileList → ℕ → Stretch → ℕ → Type 0
LieIn tiling list t s n = (j : ℕ) → 1 ≤ j → j ≤ n → IsTileOf tiling list t (moved_on s j)

-- a pass over the walk, the rest of which is what is to come of a spot
pub record IsPassing (flow : Bool) (program : Program) (params : List ℤ) (ts : Trees) (tiling : Tiling)
    (list : TileList) (table : Table) (spot : Spot) (pass : Pass) : Type 0 where
  pub spot_is : IsSpotOf ts params spot
  pub finder : IsFinder tiling list pass.finder
  pub room : HasRoomForAll table pass.desk
  pub way : IsOnItsWay flow program params tiling list (to_come ts params spot) pass.traces pass.pairs
