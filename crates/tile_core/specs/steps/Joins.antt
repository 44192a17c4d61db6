-- The lanes of a join at an instance of a plan, and at the first of some that go on by equal steps.
use Rattle.std.specs.Prelude.{◌≡◌, ◌+◌, ◌<◌, ◌≤◌, ℕ, ℤ, List, length}
use Rattle.scop_syntax.specs.Walk.{Instance}
use Rattle.tile_table.specs.Joins.{IsJoinAt}
use Rattle.tile_table.specs.declared.join.JoinLanes.{JoinLanes}
use Rattle.tile_table.specs.declared.table.Row.{Row}
use Rattle.tile_core.specs.Plans.{places_in, plain_shape}
use Rattle.tile_core.specs.Ranks.{place_in}
use Rattle.tile_core.specs.Rows.{IsRowAt}
use Rattle.tile_core.specs.Stretches.{moved}
use Rattle.tile_core.specs.declared.plan.Plan.{Plan}

-- the lanes are those of a row at an instance that the row tells of, and go on by these steps
pub record IsJoinedAt (plan : Plan) (row : Row) (steps : List ℤ) (x : Instance) (lanes : JoinLanes) : Type 0 where
  pub tells : IsRowAt plan row x
  pub laid : IsJoinAt row steps x.turns lanes

-- the lanes stand at some of these cells
pub record AreWithin (lanes : JoinLanes) (cells : List ℕ) : Type 0 where
  pub place : lanes.place.at < length cells
  pub first : lanes.first.at < length cells
  pub second : lanes.second.at < length cells
  pub third : lanes.third.at < length cells

-- so many instances of a tile, from number k on, have these steps more each, and the lanes stand at the first
pub record AreJoinedFrom (plan : Plan) (row : Row) (steps : List ℤ) (x : Instance) (t k count : ℕ)
    (lanes : JoinLanes) : Type 0 where
  pub tells : (j : ℕ) → j < count → IsRowAt plan row (moved x steps j)
  pub place : (j : ℕ) → j < count → place_in (places_in plan) (moved x steps j) ≡ (plain_shape plan).place t (k + j)
  pub laid : IsJoinAt row steps x.turns lanes

-- so for some plan whose cells are among these
pub record StandJoined (lanes : JoinLanes) (count : ℕ) (cells : List ℕ) : Type 0 where
  pub plan : Plan
  pub row : Row
  pub steps : List ℤ
  pub instance : Instance
  pub tile : ℕ
  pub first : ℕ
  pub from : AreJoinedFrom plan row steps instance tile first count lanes
  pub wide : (plain_shape plan).cells ≤ length cells
