-- Over ports in memory that fail at no call and have room, no fault is counted.
use Rattle.scop_syntax.proofs.Common.{◌≡◌, ◌⊎◌, sym, subst, ap, refl, ℕ, true, List, [], Some, None, if◌then◌else◌}
use Rattle.scop_syntax.proofs.Common.{arith}
use Rattle.io_ports.specs.Faults.{Rose, none_to_come}
use Rattle.io_ports.specs.Writes.{IsWithin, HasRoom}
use Rattle.io_ports.specs.Memory.{SourceState, source_shows, SinkState, sink_shows}
use Rattle.plan_search.specs.Status.{Status}
use Rattle.plan_search.specs.Status.TheVariants.{NoMemory}
use Rattle.polypar.specs.Deserves.{Deserves, Asks}
use Rattle.plan_search.specs.StatusText.{status_text}
use Rattle.polypar.specs.Answered.{Answered, CountsStay}
use Rattle.polypar.specs.InMemory.{NeverFail, Holds, HoldsText, HoldsLine}

-- with no call listed none is to come
none_listed : (fails : List ℕ) (calls : ℕ) → fails ≡ [] → none_to_come fails calls ≡ true
none_listed fails calls empty = ap (λ list. none_to_come list calls) empty

-- a sink that fails at no call has the room that it holds
room_held : (sink : SinkState) (text : List ℕ) → sink.fails ≡ [] → Holds sink text → HasRoom (sink_shows sink) text
room_held sink text empty holds =
    subst (λ sure. IsWithin (if sure then Some sink.capacity else None) (Some sink.taken) text)
    (sym (none_listed sink.fails sink.calls empty)) holds

-- a count that stays at 0 did not rise
zero_stays : (before now : ℕ) → before ≡ 0 → now ≡ before → Rose before now → ⊥
zero_stays before now zero same rose = omega (arith, zero, same, rose)

-- every count stays
pub stays_in_memory : (words : List (List ℕ)) (status : Status) (source source_after : SourceState)
    (out out_after err err_after : SinkState)
    → Answered words status (source_shows source) (source_shows source_after) (sink_shows out) (sink_shows out_after)
    (sink_shows err) (sink_shows err_after)
    → NeverFail source out err → HoldsText words source.left out err → HoldsLine source.left status err
    → CountsStay (source_shows source) (source_shows source_after) (sink_shows out) (sink_shows out_after)
    (sink_shows err) (sink_shows err_after)
stays_in_memory words status source source_after out out_after err err_after answered never room line =
    answered.calm (none_listed source.fails source.calls never.source_fails)
    (λ input told whole asked.
    let holds = room told (subst (λ i. Asks words i told) (sym whole) asked) in
    (room_held out told.text never.out_fails holds.0, room_held err told.lines never.err_fails holds.1))
    (λ named names. room_held err (status_text named status) never.err_fails (line named names))

-- and the status is the one deserved, or memory ran out
pub decided_in_memory : (words : List (List ℕ)) (status verdict : Status) (source source_after : SourceState)
    (out out_after err err_after : SinkState)
    → Answered words status (source_shows source) (source_shows source_after) (sink_shows out) (sink_shows out_after)
    (sink_shows err) (sink_shows err_after)
    → NeverFail source out err → Deserves words source.left verdict → HoldsText words source.left out err
    → HoldsLine source.left status err
    → (status ≡ verdict) ⊎ (status ≡ NoMemory)
decided_in_memory words status verdict source source_after out out_after err err_after answered never deserves room
    line =
    let stay = stays_in_memory words status source source_after out out_after err err_after answered never room line in
    answered.decided source.left verdict refl deserves (record {
      of_source = zero_stays source.faults source_after.faults never.source_faults stay.of_source;
      of_out = zero_stays out.faults out_after.faults never.out_faults stay.of_out;
      of_err = zero_stays err.faults err_after.faults never.err_faults stay.of_err;
    })
