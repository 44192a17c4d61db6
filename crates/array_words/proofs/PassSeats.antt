-- The seat of a pass: what is known of where its worker stands is known of where its view does.
use Rattle.scop_syntax.proofs.Common.{ℕ, List, refl, subst, sym}
use Rattle.tile_core.specs.Passes.{IsPass}
use Rattle.tile_core.specs.declared.words.Pass.{Pass}
use Rattle.tile_core.specs.declared.words.Words.{Words}
use Rattle.tile_core.specs.declared.worker.Stage.{Stage}
use Rattle.array_words.specs.Seats.{IsSeat}

module _ (words : Words) (pass : Pass) where
  -- the seat of a pass stands where its view does
  pub seat_of : IsPass words pass → IsSeat words pass.seat.me.0.stage pass.seat.me.0.reads pass.seat
  seat_of is = record {
    of = is.of;
    table = is.table;
    key = is.key;
    slots = is.slots;
    parts = is.parts;
    stage = refl;
    reads = refl;
  }

  -- what is known at the worker's stage and reads is known at the view's
  pub at_view : (P : Stage → List ℕ → Type 0) → IsPass words pass → P pass.worker.stage pass.worker.reads.items
      → P pass.seat.me.0.stage pass.seat.me.0.reads
  at_view P is p =
      subst (λ s. P s pass.seat.me.0.reads) (sym is.stage) (subst (λ xs. P pass.worker.stage xs) (sym is.reads) p)

  -- and the other way round
  pub at_worker : (P : Stage → List ℕ → Type 0) → IsPass words pass → P pass.seat.me.0.stage pass.seat.me.0.reads
      → P pass.worker.stage pass.worker.reads.items
  at_worker P is p =
      subst (λ s. P s pass.worker.reads.items) is.stage (subst (λ xs. P pass.seat.me.0.stage xs) is.reads p)
