-- Seats at the table: of one worker, and at the start of several.
use Rattle.std.specs.Prelude.{◌≡◌, ℕ, ◌-◌, List, [], All, Some}
use Rattle.atomic_table.specs.declared.shared.Seat.{Seat}
use Rattle.tile_events.specs.Rule.{unmoved}
use Rattle.tile_core.specs.declared.plan.Plan.{Plan}
use Rattle.tile_core.specs.declared.worker.Stage.{Stage}
use Rattle.tile_core.specs.declared.worker.Stage.TheVariants.{Idle}
use Rattle.tile_core.specs.declared.view.View.{View}
use Rattle.tile_core.specs.declared.words.Words.{Words}
use Rattle.tile_core.specs.declared.words.Pass.{Pass}
use Rattle.tile_core.specs.Passes.{IsPass, IsWords}

-- the seat stands for one worker, which is at stage s and has read xs for its next instance
pub record IsSeat (words : Words) (s : Stage) (xs : List ℕ) (seat : Seat (Unit {0}) View) : Type 0 where
  pub of : IsWords words
  pub table : seat.table_id ≡ words.table.shared.table_id
  pub key : seat.me.0.key ≡ Some words.table.shared.key
  pub slots : seat.me.1 ≡ []
  pub parts : seat.me.0.parts ≡ 1
  pub stage : seat.me.0.stage ≡ s
  pub reads : seat.me.0.reads ≡ xs

-- one worker is given away
abbrev pub fewer : View → View
fewer v = record v { parts = v.parts - 1 }

-- and has a view of its own, without a step
abbrev pub one_of : View → View
one_of v = record v { parts = 1; clock = unmoved }

-- the words are of this plan, these cells at first, and so many workers
pub record IsStart (words : Words) (plan : Plan) (cells : List ℕ) (workers : ℕ) : Type 0 where
  pub planned : words.plan ≡ plan
  pub opening : words.table.shared.key.cells.items ≡ cells
  pub all : words.table.shared.key.workers ≡ workers

-- the seat stands for n workers, all of them are idle, and no step has been made
pub record IsRest (words : Words) (n : ℕ) (seat : Seat (Unit {0}) View) : Type 0 where
  pub of : IsWords words
  pub table : seat.table_id ≡ words.table.shared.table_id
  pub key : seat.me.0.key ≡ Some words.table.shared.key
  pub slots : seat.me.1 ≡ []
  pub parts : seat.me.0.parts ≡ n
  pub stage : seat.me.0.stage ≡ Idle
  pub reads : seat.me.0.reads ≡ []
  pub unmoved : seat.me.0.clock.steps ≡ 0

-- the pass's worker is idle
abbrev pub IsIdlePass : Pass → Type 0
IsIdlePass pass = pass.worker.stage ≡ Idle

-- the pass has made no step
abbrev pub IsUnmoved : Pass → Type 0
IsUnmoved pass = pass.seat.me.0.clock.steps ≡ 0

-- the passes are of these words, their workers are idle, and none has made a step
pub record AreUnused (words : Words) (passes : List Pass) : Type 0 where
  pub are : All (IsPass words) passes
  pub idle : All IsIdlePass passes
  pub unmoved : All IsUnmoved passes
