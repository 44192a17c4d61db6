-- What is known of the words of a run, and of each pass of theirs.
use Rattle.std.specs.Prelude.{◌≡◌, ℕ, ◌+◌, ◌<◌, ◌≤◌, [], length, Some}
use Rattle.tile_events.specs.Plan as plain
use Rattle.tile_events.specs.Sound.{Holds}
use Rattle.scop_syntax.specs.declared.instance.Instance.{Instance}
use Rattle.tile_core.specs.Plans.{IsPlan, place_of, plan_of, walk_plan, walk_shape}
use Rattle.tile_core.specs.Views.{done_at}
use Rattle.tile_core.specs.declared.plan.Plan.{Plan}
use Rattle.tile_core.specs.declared.worker.Stage.{Stage}
use Rattle.tile_core.specs.Workers.{IsWorker, staged}
use Rattle.tile_core.specs.declared.words.Words.{Words}
use Rattle.tile_core.specs.declared.words.Pass.{Pass}

-- the plan of the words, with the cells at first
abbrev pub plan_in : Words → plain.Plan
plan_in words = plan_of words.plan words.table.shared.key.cells.items

-- the walk's places alone, with the cells at first
abbrev pub walk_in : Words → plain.Plan
walk_in words = walk_plan words.plan words.table.shared.key.cells.items

-- the table is that of the plan: two counts and the cells
pub record IsWords (words : Words) : Type 0 where
  pub plan : words.table.shared.key.plan ≡ words.plan
  pub planned : IsPlan words.plan
  pub wide : length words.table.shared.key.cells.items ≡ (plan_in words).cells
  pub long : words.table.shared.table_id.words ≡ (plan_in words).cells + 2
  pub room : (plan_in words).cells + 2 < 18446744073709551616
  pub slots : words.table.shared.table_id.slots ≡ 0

-- the pass is one of these words, its view shows its worker, and it stands for one of the workers
pub record IsPass (words : Words) (pass : Pass) : Type 0 where
  pub of : IsWords words
  pub table : pass.seat.table_id ≡ words.table.shared.table_id
  pub key : pass.seat.me.0.key ≡ Some words.table.shared.key
  pub slots : pass.seat.me.1 ≡ []
  pub parts : pass.seat.me.0.parts ≡ 1
  pub stage : pass.seat.me.0.stage ≡ pass.worker.stage
  pub reads : pass.seat.me.0.reads ≡ pass.worker.reads.items
  pub worker : IsWorker words.plan pass.worker

-- the instance comes next in the tile that is held
pub record IsNextIn (plan : Plan) (stage : Stage) (i : Instance) : Type 0 where
  pub tile : ℕ
  pub held : Holds (staged stage []) tile
  pub left : done_at stage < (walk_shape plan).size tile
  pub place : place_of plan i ≡ (walk_shape plan).place tile (done_at stage)

-- none does: no tile is held, or nothing of it is left
abbrev pub HasNoneNext : Plan → Stage → Type 0
HasNoneNext plan stage = (t : ℕ) → Holds (staged stage []) t → (walk_shape plan).size t ≤ done_at stage
