-- The end of a tile of which every instance is done is allowed by the rule of its table.
use Rattle.std.proofs.Common.{◌≡◌, suc, ◌+◌, ◌%◌, ◌^◌, ◌∙◌, [], ap₂, refl, sym, subst}
use mathlib.Core.Option.{none}
use Rattle.atomic_table.specs.Table.{Allows, step}
use Rattle.tile_events.specs.Allowed.{FinishIsAllowed}
use Rattle.tile_core.specs.declared.worker.Stage.{Stage}
use Rattle.tile_core.specs.declared.worker.Stage.TheVariants.{Idle, Ended, Holding, Working}
use Rattle.tile_core.specs.declared.view.Key.{Key}
use Rattle.tile_core.specs.declared.words.Words.{Words}
use Rattle.tile_core.specs.declared.words.Pass.{Pass}
use Rattle.tile_core.specs.declared.plan.Plan.{Plan}
use Rattle.tile_core.specs.Plans.{plan_of}
use Rattle.tile_core.specs.Workers.{staged}
use Rattle.tile_core.specs.Views.{key_plan, worker_in, parts_in, clock_in, at_stage, behind, Ruled}
use Rattle.tile_core.specs.Passes.{plan_in, IsPass}
use Rattle.wave_barrier.specs.Finishes.{IsFull, Finishes}

module _ (words : Words) (pass : Pass) where
  abbrev MayFinish : Words → Pass → Type 0
  MayFinish words pass =
      Allows (Ruled words.table.shared.key) words.table.shared.table_id.slots pass.seat.id pass.seat.me 1
      (λ n. (n + 1) % 2 ^ 64)
      (Finishes (step words.table.shared.table_id.slots 1 1 0 none) pass.seat.me)

  finishes_at : FinishIsAllowed Finishes → (s : Stage) → IsPass words pass → pass.worker.stage ≡ s
      → IsFull (key_plan words.table.shared.key) s → MayFinish words pass
  finishes_at allowed Idle is at full = absurd full
  finishes_at allowed Ended is at full = absurd full
  finishes_at allowed (Holding t) is at full = absurd full
  finishes_at allowed (Working t k) is at full =
      let key : Key = words.table.shared.key in
      allowed (key_plan key) key.workers worker_in parts_in clock_in words.table.shared.table_id.slots pass.seat.id t k
      pass.worker.reads.items
      pass.seat.me (λ stamp n. at_stage (behind pass.seat.me.0 stamp 1 (suc n)) Idle [])
      (ap₂ staged (is.stage ∙ at) is.reads) (λ stamp n. (refl, refl, refl)) full (λ stamp n. (stamp, refl))

  pub finishes : FinishIsAllowed Finishes → IsPass words pass → IsFull (plan_in words) pass.worker.stage
      → MayFinish words pass
  finishes allowed is full =
      finishes_at allowed pass.worker.stage is refl
      (subst (λ (p : Plan). IsFull (plan_of p words.table.shared.key.cells.items) pass.worker.stage)
      (sym is.of.plan) full)
