-- What an opening does to the pass that tries it.
use Rattle.std.specs.Prelude.{◌≡◌, ℕ, ◌<◌, ◌≤◌, ⊤, [], Result, Ok, Err}
use mathlib.Core.Option as plain_option
use Rattle.atomic_table.specs.Table.{Me, Step, step}
use Rattle.tile_core.specs.declared.worker.Stage.{Stage}
use Rattle.tile_core.specs.declared.worker.Stage.TheVariants.{Holding, Working}
use Rattle.tile_core.specs.declared.view.View.{View}
use Rattle.tile_core.specs.declared.words.Words.{Words}
use Rattle.tile_core.specs.declared.words.Pass.{Pass}
use Rattle.tile_core.specs.Views.{at_stage, behind, plan_at, tile_at, needs_at}
use Rattle.tile_core.specs.Passes.{plan_in}
use Rattle.tile_events.specs.Rule.{gate_word}
use Rattle.wave_barrier.specs.declared.counting.Short.{Short}
use Rattle.wave_barrier.specs.declared.waves.NotYet.{NotYet}

-- it holds a tile that it has not opened
abbrev pub IsHolding : Stage → Type 0
IsHolding s = (t : ℕ) × (s ≡ Holding t)

-- the tile is opened where the number r that it found in the word is enough, else it stays as it is
abbrev pub Opens : Step (Unit {0}) → Me (Unit {0}) View → ℕ → Me (Unit {0}) View → Type 0
Opens st m r n = (stamp : ℕ)
    × (needs_at (plan_at m.0.key) m.0.stage ≤ r
    → n ≡ (at_stage (behind m.0 stamp st.word r) (Working (tile_at m.0.stage) 0) [], m.1))
    × (r < needs_at (plan_at m.0.key) m.0.stage → n ≡ (behind m.0 stamp st.word r, m.1))

-- Ok exactly where at least as many are finished as have to be
abbrev pub OpenedBy : ℕ → ℕ → Result ⊤ NotYet → Type 0
OpenedBy needs r (Ok x) = needs ≤ r
OpenedBy needs r (Err e) = (r < needs) × (e.done ≡ r) × (e.needs ≡ needs)

-- an opening is its event on the pass's own view, by the number that it found
abbrev pub DoesOpen : Words → Pass → Result ⊤ NotYet → Pass → Type 0
DoesOpen words old result new =
    (r : ℕ) × Opens (step words.table.shared.table_id.slots 1 0 0 plain_option.none) old.seat.me r new.seat.me
    × OpenedBy (needs_at (plan_in words) old.worker.stage) r result

-- Ok exactly where the counter holds at least as much as it has to
abbrev pub FilledBy : ℕ → ℕ → Result ⊤ Short → Type 0
FilledBy needs r (Ok x) = needs ≤ r
FilledBy needs r (Err e) = (r < needs) × (e.seen ≡ r) × (e.needs ≡ needs)

-- an opening by this word is its event on the pass's own view
abbrev pub DoesOpenBy : Words → Pass → ℕ → ℕ → Result ⊤ Short → Pass → Type 0
DoesOpenBy words old word needs result new =
    (r : ℕ) × Opens (step words.table.shared.table_id.slots word 0 0 plain_option.none) old.seat.me r new.seat.me
    × FilledBy needs r result

-- so where the word is that of the tile's own counter
abbrev pub DoesOpenTile : Words → Pass → Result ⊤ Short → Pass → Type 0
DoesOpenTile words old result new =
    DoesOpenBy words old (gate_word (plan_in words).gate (tile_at old.worker.stage))
    (needs_at (plan_in words) old.worker.stage) result new
