-- What the release of a tile does to the pass that makes it.
use Rattle.std.specs.Prelude.{◌≡◌, ℕ, suc, ◌+◌, ◌%◌, ◌^◌, ◌<◌, ◌≤◌, []}
use mathlib.Core.Option as plain_option
use Rattle.atomic_table.specs.Table.{Me, Step, step}
use Rattle.tile_events.specs.Plan as plain
use Rattle.tile_core.specs.declared.plan.Plan.{Plan}
use Rattle.tile_core.specs.declared.worker.Stage.{Stage}
use Rattle.tile_core.specs.declared.worker.Stage.TheVariants.{Working}
use Rattle.tile_core.specs.declared.view.View.{View}
use Rattle.tile_core.specs.declared.words.Words.{Words}
use Rattle.tile_core.specs.declared.words.Pass.{Pass}
use Rattle.tile_core.specs.Passes.{plan_in}
use Rattle.tile_core.specs.Plans.{shape_of, walk_shape}
use Rattle.tile_core.specs.Views.{at_stage, behind, done_at, place_at, tile_at}

-- every instance of the tile is done, and it has not released all that wait for it
pub record IsLeft (plan : Plan) (stage : Stage) : Type 0 where
  pub tile : ℕ
  pub count : ℕ
  pub works : stage ≡ Working tile count
  pub done : (walk_shape plan).size tile ≤ count
  pub left : count < (shape_of plan).size tile

-- the word of the cell that the next act writes: of a release, the counter of the tile that it releases
abbrev pub next_word : plain.Plan → Stage → ℕ
next_word p s = p.written (place_at p s) + 2

-- one act more is done, and the word holds one more than the number r that it found
abbrev pub Releases : Step (Unit {0}) → Me (Unit {0}) View → ℕ → Me (Unit {0}) View → Type 0
Releases st m r n = (stamp : ℕ) × (n ≡ (
  at_stage (behind m.0 stamp st.word ((r + 1) % 2 ^ 64))
      (Working (tile_at m.0.stage) (suc (done_at m.0.stage))) [],
  m.1,
))

-- 1 more in this word is such an event on the pass's own view
abbrev pub DoesAdd : Words → Pass → ℕ → Pass → Type 0
DoesAdd words old word new =
    (r : ℕ) × Releases (step words.table.shared.table_id.slots word 1 0 plain_option.none) old.seat.me r new.seat.me

-- a release is its event on the pass's own view
abbrev pub DoesRelease : Words → Pass → Pass → Type 0
DoesRelease words old new = DoesAdd words old (next_word (plan_in words) old.worker.stage) new
