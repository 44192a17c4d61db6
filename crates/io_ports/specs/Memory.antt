-- The in-memory ports: what each value is, and exactly what each call does to it.
use Rattle.std.specs.Prelude.{◌≡◌, ◌⊎◌, ◌↔◌, ℕ, ◌-◌, ◌<◌, min, List, ◌++◌, length, take, drop, Contains, Result, IsErr}
use Rattle.std.specs.Prelude.{IfOk, OnErr, None, Some, if◌then◌else◌}
use Rattle.io_ports.specs.Faults.{next_count, none_to_come}
use Rattle.io_ports.specs.Reads.{SourceShows}
use Rattle.io_ports.specs.Writes.{SinkShows}

-- a source over bytes in memory: those left, the most that a call gives, the numbers of the calls that
-- fail (counted from 1), and how many calls were made and failed
pub record SourceState : Type 0 where
  pub left : List ℕ
  pub step : ℕ
  pub fails : List ℕ
  pub calls : ℕ
  pub faults : ℕ

-- it tells its bytes, and is steady where no call that fails is still to come
abbrev pub source_shows : SourceState → SourceShows
source_shows source = record {
  left = Some source.left;
  faults = source.faults;
  is_steady = none_to_come source.fails source.calls;
}

-- a read fails exactly at the listed calls, and else gives the most that step, room and bytes allow
pub record ReadsNext {E : Type 0} (old new : SourceState) (room : ℕ) (result : Result ℕ E) : Type 0 where
  pub fails : IsErr result ↔ Contains old.fails (next_count old.calls)
  pub given : IfOk result (λ n. (n ≡ min old.step (min room (length old.left)))
      × (new ≡ record old { calls = next_count old.calls; left = drop n old.left }))
  pub failed : OnErr result (new ≡ record old { calls = next_count old.calls; faults = next_count old.faults })

-- a sink into memory: the bytes taken, how many it has room for, the most that a call takes, the numbers of
-- the calls that fail (writes and flushes counted together from 1), and how many calls were made and failed
pub record SinkState : Type 0 where
  pub taken : List ℕ
  pub capacity : ℕ
  pub step : ℕ
  pub fails : List ℕ
  pub calls : ℕ
  pub faults : ℕ

-- it tells its bytes, and takes as many as it has room for where no call that fails is still to come
abbrev pub sink_shows : SinkState → SinkShows
sink_shows sink = record {
  taken = Some sink.taken;
  faults = sink.faults;
  limit = if none_to_come sink.fails sink.calls then Some sink.capacity else None;
}

-- there is no room for the first byte of the piece
abbrev pub IsFull : SinkState → List ℕ → Type 0
IsFull sink piece = (0 < length piece) × (sink.capacity ≡ length sink.taken)

-- a write fails exactly at the listed calls and where there is no room, and else takes the most that step,
-- room and piece allow
pub record WritesNext {E : Type 0} (old new : SinkState) (piece : List ℕ) (result : Result ℕ E) : Type 0 where
  pub fails : IsErr result ↔ (Contains old.fails (next_count old.calls) ⊎ IsFull old piece)
  pub given : IfOk result (λ n. (n ≡ min old.step (min (old.capacity - length old.taken) (length piece)))
      × (new ≡ record old { calls = next_count old.calls; taken = old.taken ++ take n piece }))
  pub failed : OnErr result (new ≡ record old { calls = next_count old.calls; faults = next_count old.faults })

-- a flush fails exactly at the listed calls, and changes nothing but the counts
pub record FlushesNext {E : Type 0} (old new : SinkState) (result : Result (Unit {0}) E) : Type 0 where
  pub fails : IsErr result ↔ Contains old.fails (next_count old.calls)
  pub done : IfOk result (λ _. new ≡ record old { calls = next_count old.calls })
  pub failed : OnErr result (new ≡ record old { calls = next_count old.calls; faults = next_count old.faults })
