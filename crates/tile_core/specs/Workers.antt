-- A worker in memory as plain data, and where it stands in the visits of the plan's tree.
use Rattle.std.specs.Prelude.{◌≡◌, ◌⊎◌, ℕ, suc, ◌+◌, ◌<◌, ◌≤◌, All, List, drop, length, slice_get, Option}
use Rattle.std.specs.Option.{option_map}
use Rattle.scop_syntax.specs.Members.{In}
use Rattle.scop_syntax.specs.View.{instance_of}
use Rattle.scop_syntax.specs.declared.instance.Instance.{Instance}
use Rattle.loop_tree.specs.SpotView.{IsSpotOf, to_come}
use Rattle.loop_tree.specs.View.{trees_in}
use Rattle.loop_tree.specs.declared.spot.Spot.{Spot}
use Rattle.tile_table.specs.Desks.{HasRoomForAll}
use Rattle.tile_table.specs.declared.desk.Desk.{Desk}
use Rattle.tile_table.specs.declared.table.Table.{Table}
use Rattle.tile_events.specs.Core as core
use Rattle.tile_events.specs.Sound.{Holds}
use Rattle.tile_core.specs.Plans.{deal_of, place_of, places_in, scan_in, shape_of, walk_shape}
use Rattle.tile_core.specs.declared.plan.Plan.{Plan}
use Rattle.tile_core.specs.declared.worker.Stage.{Stage}
use Rattle.tile_core.specs.declared.worker.Stage.TheVariants.{Idle, Ended, Holding, Working}
use Rattle.tile_core.specs.declared.worker.Worker.{Worker}

-- where a worker with these values read stands
abbrev pub staged : Stage → List ℕ → core.Worker
staged Idle xs = core.idle
staged Ended xs = core.ended
staged (Holding t) xs = core.holding t
staged (Working t k) xs = core.working t k xs

abbrev pub worker_of : Worker → core.Worker
worker_of w = staged w.stage w.reads.items

-- this is the instance at rank r of the scan, and the spot is the place behind it
pub record IsNext (plan : Plan) (r : ℕ) (next : Option Instance) (spot : Spot) : Type 0 where
  pub instance : option_map instance_of next ≡ slice_get (scan_in plan) r
  pub behind : to_come (trees_in plan.tree.now) plan.params.now spot ≡ drop (suc r) (scan_in plan)

-- a desk for each strand of a braid, with room for each statement
pub record AreDesks (table : Table) (desks : List Desk) : Type 0 where
  pub many : length desks ≡ 4
  pub room : All (HasRoomForAll table) desks

-- a worker of the plan: the tile that it holds is one of the plan's, in an opened one it knows the instance that comes
-- next, where one is left, and its desks have room for each statement
pub record IsWorker (plan : Plan) (w : Worker) : Type 0 where
  pub spot : IsSpotOf (trees_in plan.tree.now) plan.params.now w.spot
  pub tile : (t : ℕ) → Holds (worker_of w) t → t < (shape_of plan).tiles
  pub next : (t k : ℕ) → w.stage ≡ Working t k → k < (walk_shape plan).size t
      → IsNext plan ((deal_of plan).start t + k) w.next w.spot
  pub desk : HasRoomForAll plan.table.now w.desk
  pub desks : AreDesks plan.table.now w.desks.items

-- the instance is the next one of a worker that stands so
pub record IsDue (plan : Plan) (stage : Stage) (i : Instance) : Type 0 where
  pub tile : ℕ
  pub count : ℕ
  pub works : stage ≡ Working tile count
  pub left : count < (walk_shape plan).size tile
  pub place : place_of plan i ≡ (walk_shape plan).place tile count
  pub walked : In (instance_of i) (places_in plan)

-- it has none: it is not at work, or no instance of its tile is left
abbrev pub HasNoneDue : Plan → Stage → Type 0
HasNoneDue plan stage = (t k : ℕ) → stage ≡ Working t k → (walk_shape plan).size t ≤ k

-- all instances of its tile are done, and tile u is the next that this one releases: the act adds to the counter of u
pub record IsReleasing (plan : Plan) (stage : Stage) (u : ℕ) : Type 0 where
  pub tile : ℕ
  pub count : ℕ
  pub works : stage ≡ Working tile count
  pub done : (walk_shape plan).size tile ≤ count
  pub left : count < (shape_of plan).size tile
  pub next : u < (shape_of plan).tiles
  pub counter : (shape_of plan).written ((shape_of plan).place tile count) ≡ (walk_shape plan).cells + u

-- it is not at work, an instance of its tile is left, or no release
abbrev pub ReleasesNone : Plan → Stage → Type 0
ReleasesNone plan stage =
    (t k : ℕ) → stage ≡ Working t k → (k < (walk_shape plan).size t) ⊎ ((shape_of plan).size t ≤ k)
