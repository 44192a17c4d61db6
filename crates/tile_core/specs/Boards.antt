-- The state of a run in memory as plain data, and what is known of it.
use Rattle.std.specs.Prelude.{◌≡◌, ℕ, ◌+◌, ◌<◌, List, All, map, length, replicate, Result, Ok, Err}
use Rattle.tile_events.specs.Core as core
use Rattle.tile_events.specs.Core.{State, replay, step}
use Rattle.tile_events.specs.Rule.{AreCounted}
use Rattle.tile_events.specs.Plan as events
use Rattle.tile_events.specs.Plan.{GoodPlan, IsDealt}
use Rattle.tile_events.specs.Sound.{Sound}
use Rattle.tile_core.specs.Acts.{DoesStretch, IsAtInstance}
use Rattle.tile_core.specs.Plans.{IsPlan, plan_of, shape_of, walk_shape}
use Rattle.tile_core.specs.Workers.{IsWorker, worker_of}
use Rattle.tile_core.specs.declared.board.Board.{Board}
use Rattle.tile_core.specs.declared.board.Event.{Event}
use Rattle.tile_core.specs.declared.board.Event.TheVariants as event
use Rattle.tile_core.specs.declared.board.NotEnabled.{NotEnabled}
use Rattle.tile_core.specs.declared.board.Seen.{Seen}
use Rattle.tile_core.specs.declared.board.Seen.TheVariants as seen
use Rattle.tile_core.specs.declared.plan.Plan.{Plan}

-- the state
abbrev pub state_of : Board → State
state_of b =
    record { claims = b.claims; finished = b.finished; cells = b.cells.items; workers = map worker_of b.workers.items }

-- an event
abbrev pub event_of : Event → core.Event
event_of event.Claim = core.claim
event_of event.Open = core.open_tile
event_of event.Load = core.load
event_of event.Store = core.store
event_of event.Add = core.add
event_of event.Release = core.release
event_of event.Finish = core.finish

-- what is seen of it
abbrev pub seen_of : Result Seen NotEnabled → core.Seen
seen_of (Ok (seen.Claimed t)) = core.claimed t
seen_of (Ok seen.Opened) = core.opened
seen_of (Ok (seen.NotYet done needs)) = core.not_yet done needs
seen_of (Ok (seen.Short held needs)) = core.short held needs
seen_of (Ok (seen.Read x)) = core.value_read x
seen_of (Ok seen.Stored) = core.stored
seen_of (Ok seen.Added) = core.added
seen_of (Ok seen.Released) = core.released
seen_of (Ok seen.Finished) = core.done
seen_of (Err e) = core.not_enabled

-- what holds between any two events: the state is sound, the claims are counted, and each worker may claim once more
pub record IsRun (p : events.Plan) (s : State) : Type 0 where
  pub good : GoodPlan p
  pub dealt : IsDealt p
  pub few : p.tiles + length s.workers < 18446744073709551615
  pub sound : Sound p s
  pub counted : AreCounted p s

-- a board of the plan, to which a run from some cells has led
pub record IsBoard (plan : Plan) (b : Board) : Type 0 where
  pub planned : IsPlan plan
  pub workers : All (IsWorker plan) b.workers.items
  pub opening : List ℕ
  pub run : IsRun (plan_of plan opening) (state_of b)

-- what an event of worker id leaves and tells: exactly what it does to the state, and workers of the plan
pub record Does (plan : Plan) (b : Board) (id : ℕ) (e : core.Event) (d : Board)
    (r : Result Seen NotEnabled) : Type 0 where
  pub event : step (shape_of plan) (state_of b) id e ≡ (state_of d, seen_of r)
  pub workers : All (IsWorker plan) d.workers.items

-- what it leaves that worker id does n instances at once: exactly what their events do to the state, and workers of the
-- plan; n is 0 where it is at no instance
pub record Stretches (plan : Plan) (b : Board) (id n : ℕ) (d : Board) : Type 0 where
  pub stretch : (t k : ℕ) → IsAtInstance (walk_shape plan) (state_of b) id t k
      → DoesStretch (walk_shape plan) (shape_of plan) (state_of b) id t k n (state_of d)
  pub none : ((t k : ℕ) → IsAtInstance (walk_shape plan) (state_of b) id t k → ⊥)
      → (n ≡ 0) × (state_of d ≡ state_of b)
  pub acts : List (ℕ × core.Event)
  pub replayed : state_of d ≡ replay (shape_of plan) (state_of b) acts
  pub workers : All (IsWorker plan) d.workers.items

-- nothing is claimed or finished, and so many workers are idle
abbrev pub opening_state : List ℕ → ℕ → State
opening_state cells n = record { claims = 0; finished = 0; cells = cells; workers = replicate n core.idle }
