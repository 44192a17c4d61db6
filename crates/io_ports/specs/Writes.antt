-- What a sink shows of itself, and what a write and a flush do to it.
use Rattle.std.specs.Prelude.{◌≡◌, ℕ, ◌+◌, ◌≤◌, List, ◌++◌, length, Option, None, Some, Result, MatchResult}
use Rattle.std.specs.Io.KnownBytes.{Appends, Keeps}
use Rattle.io_ports.specs.Faults.{Rose}
use Rattle.io_ports.specs.Bytes.{GainsFront, SendsFront}

-- the bytes taken so far, where the sink tells them; how many calls failed, a count that stays at
-- 2^64 - 1; and how many bytes it takes in all before any call fails, where it knows that
pub record SinkShows : Type 0 where
  pub taken : Option (List ℕ)
  pub faults : ℕ
  pub limit : Option ℕ

-- the bytes taken and the text together are within the limit
abbrev pub IsWithin : Option ℕ → Option (List ℕ) → List ℕ → Type 0
IsWithin None taken text = ⊥
IsWithin (Some limit) None text = ⊥
IsWithin (Some limit) (Some taken) text = length taken + length text ≤ limit

-- no call will fail before the text is taken
abbrev pub HasRoom : SinkShows → List ℕ → Type 0
HasRoom sink text = IsWithin sink.limit sink.taken text

-- no fault was counted, and the limit is as before
pub record IsCalm (old new : SinkShows) : Type 0 where
  pub faults : new.faults ≡ old.faults
  pub limit : new.limit ≡ old.limit

-- the sink took the whole text, calmly where there was room
pub record Takes (old new : SinkShows) (text : List ℕ) : Type 0 where
  pub gained : Appends old.taken new.taken text
  pub later : old.faults ≤ new.faults
  pub calm : HasRoom old text → IsCalm old new

-- what it takes for a call to fail: the count of faults rose, and there was no room for the text
pub record IsWriteFault (old new : SinkShows) (text : List ℕ) : Type 0 where
  pub rose : Rose old.faults new.faults
  pub full : HasRoom old text → ⊥

-- a call failed, and took nothing
pub record FailsToTake (old new : SinkShows) (text : List ℕ) : Type 0 where
  pub kept : Keeps old.taken new.taken
  pub later : old.faults ≤ new.faults
  pub cause : IsWriteFault old new text

-- a text was cut off: the sink failed, and took a front of it
pub record CutsOff (old new : SinkShows) (text : List ℕ) : Type 0 where
  pub gained : GainsFront old.taken new.taken text
  pub later : old.faults ≤ new.faults
  pub cause : IsWriteFault old new text

-- a text was written, or cut off
abbrev pub Writes : {E : Type 0} → SinkShows → SinkShows → List ℕ → Result (Unit {0}) E → Type 0
Writes old new text result = MatchResult result (λ _. Takes old new text) (λ _. CutsOff old new text)

-- a text was put behind what was pending: a front of both was sent on, calmly where there was room, and the rest is
-- pending
pub record Sends (old : SinkShows) (pending : List ℕ) (new : SinkShows) (rest text : List ℕ) : Type 0 where
  pub sent : SendsFront old.taken pending new.taken rest text
  pub later : old.faults ≤ new.faults
  pub calm : HasRoom old (pending ++ text) → IsCalm old new

-- a text was put behind what was pending, or both were cut off
abbrev pub Puts : {E : Type 0} → SinkShows → List ℕ → SinkShows → List ℕ → List ℕ → Result (Unit {0}) E → Type 0
Puts old pending new rest text result = MatchResult result (λ _. Sends old pending new rest text)
    (λ _. CutsOff old new (pending ++ text))
