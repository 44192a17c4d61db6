-- What a source shows of itself, and what a read does to it.
use Rattle.std.specs.Prelude.{◌≡◌, ℕ, ◌≤◌, Bool, IsTrue, List, Option}
use Rattle.std.specs.Io.KnownBytes.{Consumes, Keeps}
use Rattle.io_ports.specs.Faults.{Rose}

-- the bytes still to come, where the source tells them; how many calls failed, a count that stays at
-- 2^64 - 1; and whether the source is steady, which says that no call will fail
pub record SourceShows : Type 0 where
  pub left : Option (List ℕ)
  pub faults : ℕ
  pub is_steady : Bool

-- no call of the source will fail
abbrev pub IsSteady : SourceShows → Type 0
IsSteady source = IsTrue source.is_steady

-- the source gave these bytes; a steady one stays so and counts no fault
pub record Gives (old new : SourceShows) (bytes : List ℕ) : Type 0 where
  pub given : Consumes old.left new.left bytes
  pub later : old.faults ≤ new.faults
  pub steady : IsSteady old → IsSteady new × (new.faults ≡ old.faults)

-- what it takes for a call to fail: the count of faults rose, and the source was not steady
pub record IsReadFault (old new : SourceShows) : Type 0 where
  pub rose : Rose old.faults new.faults
  pub unsteady : IsSteady old → ⊥

-- a read failed, and gave nothing
pub record FailsToGive (old new : SourceShows) : Type 0 where
  pub kept : Keeps old.left new.left
  pub later : old.faults ≤ new.faults
  pub cause : IsReadFault old new
