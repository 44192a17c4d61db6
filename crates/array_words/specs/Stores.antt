-- What a store or an add of a cell does to the seat that makes it.
use Rattle.std.specs.Prelude.{◌≡◌, ℕ, suc, ◌+◌, ◌%◌, ◌^◌, ◌<◌, Bool, true, false, List, [], length}
use mathlib.Core.Option as plain_option
use Rattle.atomic_table.specs.declared.shared.Seat.{Seat}
use Rattle.atomic_table.specs.Table.{Me, Step, step}
use Rattle.tile_events.specs.Plan as plain
use Rattle.tile_core.specs.declared.worker.Stage.{Stage}
use Rattle.tile_core.specs.declared.worker.Stage.TheVariants.{Idle, Ended, Holding, Working}
use Rattle.tile_core.specs.declared.view.View.{View}
use Rattle.tile_core.specs.declared.words.Words.{Words}
use Rattle.tile_core.specs.declared.words.Pass.{Pass}
use Rattle.tile_core.specs.Views.{at_stage, behind, tile_at, done_at}

-- the next act of the tile is to add this value to this cell, or to store it there
abbrev pub IsNextLast : Bool → plain.Plan → Stage → List ℕ → ℕ → ℕ → Type 0
IsNextLast adds p Idle xs c x = ⊥
IsNextLast adds p Ended xs c x = ⊥
IsNextLast adds p (Holding t) xs c x = ⊥
IsNextLast adds p (Working t k) xs c x =
    (k < p.size t) × (length xs ≡ length (p.read (p.place t k))) × (p.adds (p.written (p.place t k)) ≡ adds)
    × (c ≡ p.written (p.place t k)) × (x ≡ p.value (p.place t k) xs)

-- to store it
abbrev pub IsNextStore : plain.Plan → Stage → List ℕ → ℕ → ℕ → Type 0
IsNextStore = IsNextLast false

-- to add it
abbrev pub IsNextAdd : plain.Plan → Stage → List ℕ → ℕ → ℕ → Type 0
IsNextAdd = IsNextLast true

-- one instance more is done, and nothing is read of the next
abbrev pub Stores : Step (Unit {0}) → Me (Unit {0}) View → ℕ → Me (Unit {0}) View → Type 0
Stores st m r n = (stamp : ℕ) × (n
    ≡ (at_stage (behind m.0 stamp st.word st.first) (Working (tile_at m.0.stage) (suc (done_at m.0.stage))) [], m.1))

-- a store is its event on the view of the seat
abbrev pub StoresAt : Words → Seat (Unit {0}) View → ℕ → ℕ → Seat (Unit {0}) View → Type 0
StoresAt words old cell value new =
    Stores (step words.table.shared.table_id.slots (cell + 2) value 0 plain_option.none) old.me value new.me

-- so on the pass's own seat
abbrev pub DoesStore : Words → Pass → ℕ → ℕ → Pass → Type 0
DoesStore words old cell value new = StoresAt words old.seat cell value new.seat

-- the same where the cell holds the value more than the number r that was found, modulo 2^64
abbrev pub Adds : Step (Unit {0}) → Me (Unit {0}) View → ℕ → Me (Unit {0}) View → Type 0
Adds st m r n = (stamp : ℕ) × (n ≡ (
  at_stage (behind m.0 stamp st.word ((r + st.first) % 2 ^ 64))
      (Working (tile_at m.0.stage) (suc (done_at m.0.stage))) [],
  m.1,
))

-- an add is its event on the view of the seat
abbrev pub AddsAt : Words → Seat (Unit {0}) View → ℕ → ℕ → Seat (Unit {0}) View → Type 0
AddsAt words old cell value new =
    (r : ℕ) × Adds (step words.table.shared.table_id.slots (cell + 2) value 0 plain_option.none) old.me r new.me

-- so on the pass's own seat
abbrev pub DoesAdd : Words → Pass → ℕ → ℕ → Pass → Type 0
DoesAdd words old cell value new = AddsAt words old.seat cell value new.seat
