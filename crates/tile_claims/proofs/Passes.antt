-- A claim by an idle pass is allowed by the rule of its table.
use Rattle.std.proofs.Common.{◌≡◌, suc, ◌+◌, ◌%◌, ◌^◌, ◌∙◌, [], ap, ap₂, refl, arith}
use mathlib.Core.Option.{none}
use Rattle.atomic_table.specs.Table.{Me, Allows, step}
use Rattle.tile_events.specs.Allowed.{ClaimIsAllowed}
use Rattle.tile_core.specs.declared.worker.Stage.TheVariants.{Idle, Ended, Holding}
use Rattle.tile_core.specs.declared.view.View.{View}
use Rattle.tile_core.specs.declared.view.Key.{Key}
use Rattle.tile_core.specs.declared.words.Words.{Words}
use Rattle.tile_core.specs.declared.words.Pass.{Pass}
use Rattle.tile_core.specs.Workers.{staged}
use Rattle.tile_core.specs.Views.{key_plan, plan_at, worker_in, parts_in, clock_in, at_stage, behind}
use Rattle.tile_core.specs.Views.{behind_miss, Ruled}
use Rattle.tile_core.specs.Passes.{IsPass}
use Rattle.tile_claims.specs.Claims.{Claims}

pub claims : ClaimIsAllowed Claims → (words : Words) (pass : Pass) → IsPass words pass → pass.worker.stage ≡ Idle
    → Allows (Ruled words.table.shared.key) words.table.shared.table_id.slots pass.seat.id pass.seat.me 0
    (λ n. (n + 1) % 2 ^ 64)
    (Claims (step words.table.shared.table_id.slots 0 1 0 none) pass.seat.me)
claims allowed words pass is idle =
    let key : Key = words.table.shared.key in
    let me : Me (Unit {0}) View = pass.seat.me in
    let e : (plan_at me.0.key).tiles ≡ (key_plan key).tiles = ap (λ k. (plan_at k).tiles) is.key in
    let p = is.parts in
    allowed (key_plan key) key.workers worker_in parts_in clock_in words.table.shared.table_id.slots pass.seat.id me
    (λ stamp r. at_stage (behind me.0 stamp 0 (suc r)) (Holding r) [])
    (λ stamp r. at_stage (behind_miss me.0 stamp 0 (suc r)) Ended [])
    (ap₂ staged is.stage is.reads ∙ ap (λ s. staged s pass.worker.reads.items) idle) (omega (arith, p))
    (λ stamp t. (refl, refl, refl)) (λ stamp t. (refl, refl, refl))
    (λ stamp t l. (stamp, λ h. refl, λ h. absurd (omega (arith, h, l, e))))
    (λ stamp t l. (stamp, λ h. absurd (omega (arith, h, l, e)), λ h. refl))
