-- What a claim does to the pass that makes it.
use Rattle.std.specs.Prelude.{◌≡◌, ℕ, suc, ◌<◌, ◌≤◌, [], Option, Some, None, nat_lt, if◌then◌else◌}
use mathlib.Core.Option as plain_option
use Rattle.atomic_table.specs.Table.{Me, Step, step}
use Rattle.tile_core.specs.declared.worker.Stage.{Stage}
use Rattle.tile_core.specs.declared.worker.Stage.TheVariants.{Ended, Holding}
use Rattle.tile_core.specs.declared.view.View.{View}
use Rattle.tile_core.specs.declared.words.Words.{Words}
use Rattle.tile_core.specs.declared.words.Pass.{Pass}
use Rattle.tile_core.specs.Views.{at_stage, behind, behind_miss, plan_at}
use Rattle.tile_core.specs.Passes.{plan_in}

-- the tile of the number r that it found is held, where there is one, else the pass has ended; the word then holds one
-- more
abbrev pub Claims : Step (Unit {0}) → Me (Unit {0}) View → ℕ → Me (Unit {0}) View → Type 0
Claims st m r n = (stamp : ℕ)
    × (r < (plan_at m.0.key).tiles → n ≡ (at_stage (behind m.0 stamp st.word (suc r)) (Holding r) [], m.1))
    × ((plan_at m.0.key).tiles ≤ r → n ≡ (at_stage (behind_miss m.0 stamp st.word (suc r)) Ended [], m.1))

-- the number fetched as an answer: None exactly where it is at least the number of tiles
abbrev pub claimed_of : ℕ → ℕ → Option ℕ
claimed_of tiles r = if nat_lt r tiles then Some r else None

-- where the pass stands after an answer
abbrev pub stage_claimed : Option ℕ → Stage
stage_claimed None = Ended
stage_claimed (Some t) = Holding t

-- a claim is its event on the pass's own view, by the number that it fetched
abbrev pub DoesClaim : Words → Pass → Option ℕ → Pass → Type 0
DoesClaim words old result new =
    (r : ℕ) × Claims (step words.table.shared.table_id.slots 0 1 0 plain_option.none) old.seat.me r new.seat.me
    × (result ≡ claimed_of (plan_in words).tiles r)
