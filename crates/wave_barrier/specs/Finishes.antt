-- What the end of a tile does to the pass that held it.
use Rattle.std.specs.Prelude.{◌≡◌, ℕ, suc, []}
use mathlib.Core.Option as plain_option
use Rattle.atomic_table.specs.Table.{Me, Step, step}
use Rattle.tile_events.specs.Plan as plain
use Rattle.tile_core.specs.declared.worker.Stage.{Stage}
use Rattle.tile_core.specs.declared.worker.Stage.TheVariants.{Idle, Ended, Holding, Working}
use Rattle.tile_core.specs.declared.view.View.{View}
use Rattle.tile_core.specs.declared.words.Words.{Words}
use Rattle.tile_core.specs.declared.words.Pass.{Pass}
use Rattle.tile_core.specs.Views.{at_stage, behind}

-- every act of the tile is done: its instances, and the releases of the tiles that wait for it
abbrev pub IsFull : plain.Plan → Stage → Type 0
IsFull p Idle = ⊥
IsFull p Ended = ⊥
IsFull p (Holding t) = ⊥
IsFull p (Working t k) = k ≡ p.size t

-- the tile is given up, and the word holds one more than the number r that it found
abbrev pub Finishes : Step (Unit {0}) → Me (Unit {0}) View → ℕ → Me (Unit {0}) View → Type 0
Finishes st m r n = (stamp : ℕ) × (n ≡ (at_stage (behind m.0 stamp st.word (suc r)) Idle [], m.1))

-- the end of a tile is its event on the pass's own view
abbrev pub DoesFinish : Words → Pass → Pass → Type 0
DoesFinish words old new =
    (r : ℕ) × Finishes (step words.table.shared.table_id.slots 1 1 0 plain_option.none) old.seat.me r new.seat.me
