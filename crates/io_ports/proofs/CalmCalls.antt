-- A port in memory of which no call is still to fail stays so, and its calls are calm.
use Rattle.std.proofs.Common.{◌≡◌, ◌∙◌, sym, ap, subst, refl, ℕ, Bool, true, false, List, [], ◌∷◌, ◌++◌, None, Some}
use Rattle.std.proofs.Common.{if◌then◌else◌, nat_lt, arith, length, ◌+◌, ◌^◌, ◌≤◌, ◌<◌, ◌⊎◌, inl, inr, Contains}
use Rattle.std.proofs.lemmas.Bool.{ltb-true, lt-ltb, le-ltb, and_parts, true≢false}
use Rattle.std.proofs.lemmas.List.Folds.{list_all_at}
use Rattle.std.specs.Cmp.Derive.{both_true}
use Rattle.std.specs.Io.KnownBytes.{Keeps}
use Rattle.io_ports.specs.Faults.{next_count, none_to_come}
use Rattle.io_ports.specs.Reads.{SourceShows, Gives, FailsToGive}
use Rattle.io_ports.specs.Writes.{SinkShows, IsWithin, Takes, FailsToTake}
use Rattle.io_ports.specs.Memory.{SourceState, source_shows, SinkState, sink_shows, IsFull}

-- a call whose number is past stays past
past_stays : (fail calls : ℕ) → nat_lt fail (next_count calls) ≡ true
    → nat_lt fail (next_count (next_count calls)) ≡ true
past_stays fail calls past = lt-ltb fail (next_count (next_count calls))
    (omega (arith, ltb-true fail (next_count calls) past))

-- no call is still to fail after one more
still_none : (fails : List ℕ) (calls : ℕ) → none_to_come fails calls ≡ true
    → none_to_come fails (next_count calls) ≡ true
still_none [] calls none = refl
still_none (fail ∷ fails) calls none =
    let parts = and_parts (nat_lt fail (next_count calls)) (none_to_come fails calls) none in
    both_true (past_stays fail calls parts.0) (still_none fails calls parts.1)

-- the same of the lists and counts of two moments
still : (old new : List ℕ) (before now : ℕ) → new ≡ old → now ≡ next_count before → none_to_come old before ≡ true
    → none_to_come new now ≡ true
still old new before now same next none =
    ap (λ fails. none_to_come fails now) same ∙ (ap (λ calls. none_to_come old calls) next ∙ still_none old before none)

-- room is known only where no call is still to fail
sure_of_room : (sure : Bool) (capacity : ℕ) (taken text : List ℕ)
    → IsWithin (if sure then Some capacity else None) (Some taken) text → sure ≡ true
sure_of_room true capacity taken text room = refl
sure_of_room false capacity taken text room = absurd room

-- a call that is listed is still to come
listed : (fails : List ℕ) (calls : ℕ) → Contains fails (next_count calls) → none_to_come fails calls ≡ true → ⊥
listed fails calls found none =
    let same = ap (λ fail. nat_lt fail (next_count calls)) found.2 ∙ le-ltb (next_count calls) (next_count calls)
    (omega arith) in
    true≢false (sym none ∙ list_all_at (λ fail. nat_lt fail (next_count calls)) fails found.0 _ found.1 same)

-- the sink took these bytes in a call that did not fail
pub sink_took : (view old new : SinkState) (bytes : List ℕ) → view ≡ old → new.taken ≡ view.taken ++ bytes
    → new.capacity ≡ view.capacity
    → new.fails ≡ view.fails → new.calls ≡ next_count view.calls → new.faults ≡ view.faults
    → Takes (sink_shows old) (sink_shows new) bytes
sink_took view old new bytes is taken capacity fails calls faults =
    subst (λ state. Takes (sink_shows state) (sink_shows new) bytes) is (record {
      gained = taken;
      later = omega (arith, faults);
      calm = λ room.
          let sure = sure_of_room (none_to_come view.fails view.calls) view.capacity view.taken bytes room in
          let now = still view.fails new.fails view.calls new.calls fails calls sure in
          record {
            faults = faults;
            limit = ap (λ b. if b then Some new.capacity else None) (now ∙ sym sure)
                ∙ ap (λ c. if none_to_come view.fails view.calls then Some c else None) capacity;
          };
    })

-- the source gave these bytes in a call that did not fail
pub source_gave : (view old new : SourceState) (bytes : List ℕ) → view ≡ old → view.left ≡ bytes ++ new.left
    → new.fails ≡ view.fails → new.calls ≡ next_count view.calls → new.faults ≡ view.faults
    → Gives (source_shows old) (source_shows new) bytes
source_gave view old new bytes is left fails calls faults =
    subst (λ state. Gives (source_shows state) (source_shows new) bytes) is (record {
      given = left;
      later = omega (arith, faults);
      steady = λ steady. (still view.fails new.fails view.calls new.calls fails calls steady, faults);
    })

-- the sink took nothing in a call that was listed, or for which there was no room
pub sink_failed : (view old : SinkState) (new : SinkShows) (piece : List ℕ) → view ≡ old
    → new.taken ≡ Some view.taken
    → new.faults ≡ next_count view.faults
    → view.faults < 2 ^ 64 → Contains view.fails (next_count view.calls) ⊎ IsFull view piece
    → FailsToTake (sink_shows old) new piece
sink_failed view old new piece is taken faults small cause =
    subst (λ state. FailsToTake (sink_shows state) new piece) is (record {
      kept = subst (λ t. Keeps (Some view.taken) t) (sym taken) refl;
      later = omega (arith, faults);
      cause = record {
        rose = omega (arith, faults);
        full = λ room.
            let sure = sure_of_room (none_to_come view.fails view.calls) view.capacity view.taken piece room in
            elim cause [
              | inl found ↦ listed view.fails view.calls found sure
              | inr full ↦
                  let within : length view.taken + length piece ≤ view.capacity =
                  subst (λ b. IsWithin (if b then Some view.capacity else None) (Some view.taken) piece) sure room in
                  omega (arith, full.0, full.1, within)
            ];
      };
    })

-- the source gave nothing in a call that was listed
pub source_failed : (view old : SourceState) (new : SourceShows) → view ≡ old → new.left ≡ Some view.left
    → new.faults ≡ next_count view.faults
    → view.faults < 2 ^ 64 → Contains view.fails (next_count view.calls)
    → FailsToGive (source_shows old) new
source_failed view old new is left faults small found =
    subst (λ state. FailsToGive (source_shows state) new) is (record {
      kept = subst (λ t. Keeps (Some view.left) t) (sym left) refl;
      later = omega (arith, faults);
      cause = record { rose = omega (arith, faults); unsteady = listed view.fails view.calls found };
    })
