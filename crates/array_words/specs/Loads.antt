-- What a load of a cell does to the seat that makes it.
use Rattle.std.specs.Prelude.{◌≡◌, ℕ, ◌+◌, ◌<◌, List, [], ◌∷◌, ◌++◌, length}
use mathlib.Core.Option as plain_option
use Rattle.atomic_table.specs.declared.shared.Seat.{Seat}
use Rattle.atomic_table.specs.Table.{Me, Step, step}
use Rattle.tile_events.specs.Plan as plain
use Rattle.tile_events.specs.Core.{cell_read}
use Rattle.tile_core.specs.declared.worker.Stage.{Stage}
use Rattle.tile_core.specs.declared.worker.Stage.TheVariants.{Idle, Ended, Holding, Working}
use Rattle.tile_core.specs.declared.view.View.{View}
use Rattle.tile_core.specs.declared.words.Words.{Words}
use Rattle.tile_core.specs.declared.words.Pass.{Pass}
use Rattle.tile_core.specs.Views.{at_stage, behind, plan_at, executed}

-- the next act of the tile is to read this cell
abbrev pub IsNextRead : plain.Plan → Stage → List ℕ → ℕ → Type 0
IsNextRead p Idle xs c = ⊥
IsNextRead p Ended xs c = ⊥
IsNextRead p (Holding t) xs c = ⊥
IsNextRead p (Working t k) xs c = (k < p.size t) × (length xs < length (p.read (p.place t k))) ×
    (c ≡ cell_read p t k (length xs))

-- the number r that it found is the one that execution reads there, and is kept
abbrev pub Loads : Step (Unit {0}) → Me (Unit {0}) View → ℕ → Me (Unit {0}) View → Type 0
Loads st m r n =
    (r ≡ executed (plan_at m.0.key) m.0.stage m.0.reads) × (stamp : ℕ)
    × (n ≡ (at_stage (behind m.0 stamp st.word r) m.0.stage (m.0.reads ++ r ∷ []), m.1))

-- a load is its event on the view of the seat, by the number that it found
abbrev pub LoadsAt : Words → Seat (Unit {0}) View → ℕ → ℕ → Seat (Unit {0}) View → Type 0
LoadsAt words old cell result new =
    Loads (step words.table.shared.table_id.slots (cell + 2) 0 0 plain_option.none) old.me result new.me

-- so on the pass's own seat
abbrev pub DoesLoad : Words → Pass → ℕ → ℕ → Pass → Type 0
DoesLoad words old cell result new = LoadsAt words old.seat cell result new.seat
