-- What is done at once of a worker's tile where each instance writes a copy of its own.
use Rattle.std.specs.Prelude.{◌≡◌, ◌+◌, ◌≤◌, ℕ, List}
use Rattle.tile_core.specs.Plans.{walk_shape}
use Rattle.tile_core.specs.Workers.{HasNoneDue}
use Rattle.tile_core.specs.declared.plan.Plan.{Plan}
use Rattle.tile_core.specs.declared.worker.Stage.{Stage}
use Rattle.tile_core.specs.declared.worker.Stage.TheVariants.{Working}
use Rattle.tile_core.specs.steps.Acts.{after_instances}

-- no instance is due, and cells and stage stay
pub record DoesNone (plan : Plan) (before after : Stage) (old new : List ℕ) (count : ℕ) : Type 0 where
  pub due : HasNoneDue plan before
  pub none : count ≡ 0
  pub cells : new ≡ old
  pub stage : after ≡ before

-- so many are done, one at least
pub record DoesSome (plan : Plan) (before after : Stage) (old new : List ℕ) (count : ℕ) : Type 0 where
  pub tile : ℕ
  pub first : ℕ
  pub works : before ≡ Working tile first
  pub some : 1 ≤ count
  pub within : first + count ≤ (walk_shape plan).size tile
  pub cells : new ≡ after_instances (walk_shape plan) tile first count old
  pub stage : after ≡ Working tile (first + count)
