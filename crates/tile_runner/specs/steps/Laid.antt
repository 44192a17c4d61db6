-- Instances of a tile that are laid on a desk, or on the lanes of a join, and strands that each are on a desk of their
-- own.
use Rattle.std.specs.Prelude.{◌≡◌, ◌+◌, ◌<◌, ◌≤◌, ℕ, ℤ, List, slice_get, Some}
use Rattle.scop_syntax.specs.Members.{In}
use Rattle.scop_syntax.specs.Walk.{Instance}
use Rattle.tile_table.specs.Desks.{HasRoom, IsLaid}
use Rattle.tile_table.specs.Joins.{IsJoinAt}
use Rattle.tile_table.specs.declared.desk.Desk.{Desk}
use Rattle.tile_table.specs.declared.join.JoinLanes.{JoinLanes}
use Rattle.tile_table.specs.declared.table.Row.{Row}
use Rattle.tile_core.specs.Plans.{places_in, walk_shape}
use Rattle.tile_core.specs.Ranks.{place_in}
use Rattle.tile_core.specs.Strands.{IsRound}
use Rattle.tile_core.specs.Stretches.{moved}
use Rattle.tile_core.specs.Braid.{Braid}
use Rattle.tile_core.specs.declared.plan.Plan.{Plan}
use Rattle.tile_core.specs.declared.worker.Stage.{Stage}
use Rattle.tile_core.specs.declared.worker.Stage.TheVariants.{Working}

-- so many instances come next in the tile, each with the same steps more in its turns than the one before it, and
-- what goes on by these steps is laid at the turns of the first
pub record AreNext (plan : Plan) (s : Stage) (row : Row) (Laid : List ℤ → List ℤ → Type 0) (count : ℕ) : Type 0 where
  pub tile : ℕ
  pub done : ℕ
  pub works : s ≡ Working tile done
  pub within : done + count ≤ (walk_shape plan).size tile
  pub first : Instance
  pub steps : List ℤ
  pub own : slice_get plan.table.now.rows.items first.number ≡ Some row
  pub laid : Laid steps first.turns
  pub walked : (j : ℕ) → j < count → In (moved first steps j) (places_in plan)
  pub place : (j : ℕ) → j < count
      → place_in (places_in plan) (moved first steps j) ≡ (walk_shape plan).place tile (done + j)

-- a desk with room stands at these turns and goes on by these steps
abbrev pub IsOnDesk : Row → Desk → List ℤ → List ℤ → Type 0
IsOnDesk row desk steps turns = HasRoom row desk × IsLaid row steps turns desk

-- so for the instances that come next
abbrev pub AreOnDesk : Plan → Stage → Row → Desk → ℕ → Type 0
AreOnDesk plan s row desk = AreNext plan s row (IsOnDesk row desk)

-- the lanes of a join do
pub record AreJoined (plan : Plan) (s : Stage) (lanes : JoinLanes) (count : ℕ) : Type 0 where
  pub row : Row
  pub are : AreNext plan s row (λ steps turns. IsJoinAt row steps turns lanes) count

-- what a braid's strands give in a round comes next in the tile, in turn, and each strand's desk stands there
pub record AreStrandsNext (plan : Plan) (s : Stage) (b : Braid) (desks : List Desk) : Type 0 where
  pub round : ℕ
  pub tile : ℕ
  pub done : ℕ
  pub works : s ≡ Working tile done
  pub within : done + b.count ≤ (walk_shape plan).size tile
  pub is : IsRound plan b round tile done desks
