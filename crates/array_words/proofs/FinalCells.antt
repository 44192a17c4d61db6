-- Where all passes are joined into one that has ended, the words are the cells of execution.
use Rattle.scop_syntax.proofs.Common.{◌≡◌, ℕ, zero, suc, ◌+◌, ◌<◌, ◌∙◌, List, [], ◌∷◌, length, get_or, ap, refl, sym}
use Rattle.scop_syntax.proofs.Common.{subst, arith, slice_index, some, some-injective, some-ne-none, get_elem?}
use Rattle.atomic_table.specs.Table.{Final, Seen}
use Rattle.atomic_table.specs.declared.shared.Seat.{Seat}
use Rattle.tile_events.specs.Plan as events
use Rattle.tile_events.specs.Plan.{before}
use Rattle.tile_core.specs.declared.plan.Plan.{Plan}
use Rattle.tile_core.specs.Plans.{plan_of}
use Rattle.tile_events.specs.Core as core
use Rattle.tile_events.specs.Allowed.{EndIsExecuted}
use Rattle.tile_core.specs.Workers.{staged}
use Rattle.tile_core.specs.declared.view.Key.{Key}
use Rattle.tile_core.specs.declared.view.View.{View}
use Rattle.tile_core.specs.declared.words.Words.{Words}
use Rattle.tile_core.specs.Views.{key_plan, worker_in, parts_in, clock_in, Ruled}
use Rattle.tile_core.specs.Passes.{plan_in}
use Rattle.array_words.specs.Closing.{IsGathered, IsClosed, stage_after}

at_get : (xs : List ℕ) (i a : ℕ) → get_elem? xs i ≡ some a → get_or xs i 0 ≡ a
at_get [] i a e = absurd (some-ne-none a (sym e))
at_get (x ∷ xs) zero a e = some-injective x a e
at_get (x ∷ xs) (suc i) a e = at_get xs i a e

ended_view : (n : ℕ) (xs : List ℕ) → 0 < n → staged (stage_after n) xs ≡ core.ended
ended_view zero xs l = absurd (omega (arith, l))
ended_view (suc n) xs l = refl

cells_for : EndIsExecuted View → (key : Key) (row new : List ℕ) (slots : List (Unit {0})) (id : ℕ) (v : View)
    → worker_in v ≡ core.ended → v.parts ≡ key.workers
    → Final (Seen (Ruled key) id v) row slots
    → ((c : ℕ) → c < (key_plan key).cells → get_elem? row (c + 2) ≡ some (get_or new c 0))
    → (c : ℕ) → c < (key_plan key).cells → get_or new c 0 ≡ before (key_plan key) (key_plan key).places c
cells_for ends key row new slots id v ended all (s, (held, here), words, homes, at_home) copied c less =
    sym (at_get row (c + 2) (get_or new c 0) (copied c less))
    ∙ (ap (λ (ws : List ℕ). slice_index ws (c + 2)) (sym words)
    ∙ ends (key_plan key) key.workers worker_in parts_in clock_in s id v held here ended all c less)

-- a plan with the words' cells at first
abbrev at_plan : Words → Plan → events.Plan
at_plan words p = plan_of p words.table.shared.key.cells.items

-- the cells into which the words were copied
pub closed_cells : EndIsExecuted View → (words : Words) (seat : Seat (Unit {0}) View) (n ended : ℕ)
    (row old new : List ℕ) (slots : List (Unit {0})) → IsGathered words n ended seat → 0 < ended
    → n ≡ words.table.shared.key.workers
    → Final (Seen (Ruled words.table.shared.key) seat.id seat.me.0) row slots
    → ((c : ℕ) → c < length old → get_elem? row (c + 2) ≡ some (get_or new c 0))
    → length old ≡ (plan_in words).cells → length new ≡ length old → IsClosed (plan_in words) old new
closed_cells ends words seat n ended row old new slots gathered some_ended all final copied wide long = record {
  long = long;
  cells = subst (λ (p : Plan). (c : ℕ) → c < (at_plan words p).cells
      → get_or new c 0 ≡ before (at_plan words p) (at_plan words p).places c) gathered.of.plan
      (cells_for ends words.table.shared.key row new slots seat.id seat.me.0
      (ap (λ s. staged s seat.me.0.reads) gathered.stage ∙ ended_view ended seat.me.0.reads some_ended)
      (gathered.parts ∙ all)
      final
      (λ c l. copied c (let e = ap (λ (p : Plan). (at_plan words p).cells) gathered.of.plan in omega
      (arith, l, wide, e))));
}
