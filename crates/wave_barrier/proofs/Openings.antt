-- An opening by a pass that holds a tile is allowed by the rule of its table.
use Rattle.std.proofs.Common.{◌≡◌, ℕ, ◌<◌, ◌∙◌, [], ap, ap₂, refl, sym, subst, arith}
use mathlib.Core.Option.{none}
use Rattle.atomic_table.specs.Table.{Me, Allows, step}
use Rattle.tile_events.specs.Core.{needed_by, working}
use Rattle.tile_events.specs.Allowed.{OpenIsAllowed}
use Rattle.tile_events.specs.Rule.{gate_word}
use Rattle.tile_events.specs.Sound.{Holds}
use Rattle.tile_core.specs.declared.worker.Stage.TheVariants.{Holding, Working}
use Rattle.tile_core.specs.declared.view.View.{View}
use Rattle.tile_core.specs.declared.view.Key.{Key}
use Rattle.tile_core.specs.declared.words.Words.{Words}
use Rattle.tile_core.specs.declared.words.Pass.{Pass}
use Rattle.tile_core.specs.declared.plan.Plan.{Plan}
use Rattle.tile_core.specs.Plans.{plan_of, shape_of}
use Rattle.tile_core.specs.Workers.{staged}
use Rattle.tile_core.specs.Views.{key_plan, plan_at, worker_in, parts_in, clock_in, at_stage, behind}
use Rattle.tile_core.specs.Views.{tile_at, needs_at, Ruled}
use Rattle.tile_core.specs.Passes.{IsPass, plan_in}
use Rattle.wave_barrier.specs.Opens.{Opens}

pub opens : OpenIsAllowed Opens → (words : Words) (pass : Pass) (t word : ℕ) → IsPass words pass
    → pass.worker.stage ≡ Holding t → gate_word (plan_in words).gate t ≡ word
    → Allows (Ruled words.table.shared.key) words.table.shared.table_id.slots pass.seat.id pass.seat.me word (λ n. n)
    (Opens (step words.table.shared.table_id.slots word 0 0 none) pass.seat.me)
opens allowed words pass t word is holding at_word =
    let key : Key = words.table.shared.key in
    let me : Me (Unit {0}) View = pass.seat.me in
    let at : me.0.stage ≡ Holding t = is.stage ∙ holding in
    let e : needs_at (plan_at me.0.key) me.0.stage ≡ needed_by (key_plan key).gate (key_plan key) t =
    ap₂ (λ k s. needs_at (plan_at k) s) is.key at in
    let i : ℕ = gate_word (key_plan key).gate t in
    let w : gate_word (key_plan key).gate t ≡ word =
    ap (λ (p : Plan). gate_word (plan_of p key.cells.items).gate t) is.of.plan ∙ at_word in
    subst (λ (n : ℕ). Allows (Ruled key) words.table.shared.table_id.slots pass.seat.id me n (λ n. n)
    (Opens (step words.table.shared.table_id.slots n 0 0 none) me)) w
    (allowed (key_plan key) key.workers worker_in parts_in clock_in words.table.shared.table_id.slots pass.seat.id t me
    (λ stamp n. at_stage (behind me.0 stamp i n) (Working (tile_at me.0.stage) 0) []) (λ stamp n. behind me.0 stamp i n)
    (ap₂ staged at is.reads) (λ stamp n. (ap (λ (n : ℕ). working n 0 []) (ap tile_at at), refl, refl))
    (λ stamp n. (ap₂ staged at is.reads, refl, refl))
    (λ stamp n l. (stamp, λ h. refl, λ h. absurd (omega (arith, h, l, e))))
    (λ stamp n l. (stamp, λ h. absurd (omega (arith, h, l, e)), λ h. refl)))

-- the tile that it holds is one of the plan's
pub held_tile : (words : Words) (pass : Pass) (t : ℕ) → IsPass words pass → pass.worker.stage ≡ Holding t
    → t < (shape_of words.plan).tiles
held_tile words pass t is holding =
    is.worker.tile t (subst (λ s. Holds (staged s pass.worker.reads.items) t) (sym holding) refl)
