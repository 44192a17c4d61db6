-- What the steps of an instance ask at which the lanes of a join stand.
use Rattle.scop_syntax.proofs.Common.{◌≡◌, ◌+◌, ◌<◌, Bool, ℕ, ℤ, List, [], ◌∷◌, ◌++◌, Some, length, refl, subst, sym}
use Rattle.scop_syntax.proofs.Common.{arith, slice_get}
use Rattle.atomic_table.specs.declared.shared.Seat.{Seat}
use Rattle.tile_table.specs.Codes.{leaves_at}
use Rattle.tile_table.specs.Joins.{IsJoinAt, joined_by}
use Rattle.tile_table.specs.declared.join.JoinLanes.{JoinLanes}
use Rattle.tile_table.specs.declared.lane.Lane.{Lane}
use Rattle.tile_core.specs.Plans.{IsPlan, plain_plan, walk_plan}
use Rattle.tile_core.specs.Rows.{IsRowAt}
use Rattle.tile_core.specs.declared.plan.Plan.{Plan}
use Rattle.tile_core.specs.declared.view.View.{View}
use Rattle.tile_core.specs.declared.words.Words.{Words}
use Rattle.tile_core.specs.declared.worker.Stage.{Stage}
use Rattle.tile_core.specs.Passes.{walk_in}
use Rattle.array_words.specs.Loads.{IsNextRead}
use Rattle.array_words.specs.Seats.{IsSeat}
use Rattle.array_words.specs.Stores.{IsNextLast, IsNextStore}
use Rattle.tile_runner.specs.steps.Laid.{AreJoined}
use Rattle.tile_runner.proofs.Laid.{RowsTell, first_tells, next_last, next_read}

module _ (plan : Plan) (s : Stage) (lanes : JoinLanes) (a : AreJoined plan s lanes 1) (law : RowsTell)
    (is : IsPlan plan) (plain : (cells : List ℕ) → walk_plan plan cells ≡ plain_plan plan cells) where
  abbrev Laid : List ℤ → List ℤ → Type 0
  Laid steps turns = IsJoinAt a.row steps turns lanes

  tells : IsRowAt plan a.row a.are.first
  tells = first_tells plan s a.row Laid a.are law is

  -- where its first n reads are known, the next one is that of lane n + 1
  pub lane_read : (cells xs : List ℕ) (n : ℕ) (lane : Lane) → length xs ≡ n → n < 3
      → slice_get (lanes.place ∷ lanes.first ∷ lanes.second ∷ lanes.third ∷ []) (n + 1) ≡ Some lane
      → IsNextRead (walk_plan plan cells) s xs lane.at
  lane_read cells xs n lane long less there =
      let reads = a.are.laid.joins.reads in
      next_read plan s a.row Laid a.are cells xs n lane.at (plain cells) tells long (omega (arith, less, reads))
      (λ form told. (a.are.laid.cells.each (n + 1) form lane told there).at)

  -- where all are known, it stores what the join makes of them
  pub lane_store : (cells : List ℕ) (x y z : ℕ)
      → IsNextStore (walk_plan plan cells) s (x ∷ y ∷ z ∷ []) lanes.place.at (joined_by lanes.join x y z)
  lane_store cells x y z =
      subst (λ (b : Bool). IsNextLast b (walk_plan plan cells) s (x ∷ y ∷ z ∷ []) lanes.place.at
      (joined_by lanes.join x y z)) a.are.laid.stores
      (next_last plan s a.row Laid a.are cells (x ∷ y ∷ z ∷ []) lanes.place.at (joined_by lanes.join x y z)
      (plain cells) tells (sym a.are.laid.joins.reads) (λ form told. (a.are.laid.cells.each 0 form lanes.place told refl).at)
      (sym (a.are.laid.joins.value (leaves_at a.row.code a.are.first.turns) x y z)))

module _ (words : Words) (s : Stage) (xs : List ℕ) (seat : Seat (Unit {0}) View) (is : IsSeat words s xs seat) where
  -- a seat that has read one value more
  pub seat_read : (new : Seat (Unit {0}) View) (r : ℕ) → IsSeat words seat.me.0.stage (seat.me.0.reads ++ r ∷ []) new
      → IsSeat words s (xs ++ r ∷ []) new
  seat_read new r after =
      subst (λ (u : Stage). IsSeat words u (xs ++ r ∷ []) new) is.stage
      (subst (λ (ys : List ℕ). IsSeat words seat.me.0.stage (ys ++ r ∷ []) new) is.reads after)

  -- what comes next, told of where the seat stands
  pub reads_next : (c : ℕ) → IsNextRead (walk_in words) s xs c
      → IsNextRead (walk_in words) seat.me.0.stage seat.me.0.reads c
  reads_next c next =
      subst (λ (u : Stage). IsNextRead (walk_in words) u seat.me.0.reads c) (sym is.stage)
      (subst (λ (ys : List ℕ). IsNextRead (walk_in words) s ys c) (sym is.reads) next)

  pub stores_next : (c x : ℕ) → IsNextStore (walk_in words) s xs c x
      → IsNextStore (walk_in words) seat.me.0.stage seat.me.0.reads c x
  stores_next c x next =
      subst (λ (u : Stage). IsNextStore (walk_in words) u seat.me.0.reads c x) (sym is.stage)
      (subst (λ (ys : List ℕ). IsNextStore (walk_in words) s ys c x) (sym is.reads) next)
