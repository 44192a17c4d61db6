-- A run that has one worker: how its state stands, and what its steps keep.
use Rattle.std.specs.Prelude.{◌≡◌, ℕ, List, [], ◌∷◌, length}
use Rattle.tile_events.specs.Core.{State, Worker}
use Rattle.tile_events.specs.Plan as events
use Rattle.tile_core.specs.Boards.{IsRun}
use Rattle.tile_core.specs.Cores.{IsCore, plan_in, state_in}
use Rattle.tile_core.specs.Plans.{plan_of, shape_of}
use Rattle.tile_core.specs.declared.cores.Core.{Core}

-- so many tiles are claimed and finished, and the only worker stands so
pub record IsAlone (s : State) (claims finished : ℕ) (w : Worker) : Type 0 where
  pub claims_are : s.claims ≡ claims
  pub finished_are : s.finished ≡ finished
  pub alone : s.workers ≡ w ∷ []

-- the plan of a core
abbrev pub shape_in : Core → events.Plan
shape_in c = shape_of (plan_in c)

-- a core to which events of its plan have led from another
pub record IsLater (old new : Core) : Type 0 where
  pub core : IsCore new
  pub plan : plan_in new ≡ plan_in old
  pub workers : length (state_in new).workers ≡ length (state_in old).workers
  pub run : (opening : List ℕ) → IsRun (plan_of (plan_in old) opening) (state_in old)
      → IsRun (plan_of (plan_in old) opening) (state_in new)
