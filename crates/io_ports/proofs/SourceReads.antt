-- How several reads of a source compose, where it may tell what it has left.
use Rattle.std.proofs.Common.{◌∙◌, ap, ℕ, ◌<◌, List, ◌++◌, length, Option, None, Some, append-nil, length-append, arith}
use Rattle.std.specs.Io.KnownBytes.{Consumes, IsAtEnd}
use Rattle.std.proofs.KnownBytes.{Consumes-trans}
use Rattle.io_ports.specs.Bytes.{IsAllOf, IsLonger}
use Rattle.io_ports.specs.Reads.{SourceShows, IsReadFault, Gives, FailsToGive}

-- a source at whose end some bytes were given had these alone
pub all_given : (old new : Option (List ℕ)) (bytes : List ℕ) → Consumes old new bytes → IsAtEnd new → IsAllOf old bytes
all_given None new bytes given end = tt
all_given (Some old) None bytes given end = absurd given
all_given (Some old) (Some new) bytes given end = given ∙ (ap (λ t. bytes ++ t) end ∙ append-nil bytes)

-- a source that gave more bytes than a limit had more
pub more_given : (old new : Option (List ℕ)) (bytes : List ℕ) (limit : ℕ) → Consumes old new bytes
    → limit < length bytes → IsLonger old limit
more_given None new bytes limit given more = tt
more_given (Some old) None bytes limit given more = absurd given
more_given (Some old) (Some new) bytes limit given more = omega (arith, ap length given, length-append bytes new, more)

-- two reads gave both their bytes
pub give_then : (old mid new : SourceShows) (bytes more : List ℕ) → Gives old mid bytes → Gives mid new more
    → Gives old new (bytes ++ more)
give_then old mid new bytes more one two = record {
  given = Consumes-trans old.left mid.left new.left bytes more one.given two.given;
  later = omega (arith, one.later, two.later);
  steady = λ steady.
      let first = one.steady steady in
      let second = two.steady first.0 in
      (second.0, second.1 ∙ first.1);
}

-- a read failed after others had given bytes
pub give_then_fail : (old mid new : SourceShows) (bytes : List ℕ) → Gives old mid bytes → FailsToGive mid new
    → IsReadFault old new
give_then_fail old mid new bytes one fail = record {
  rose = omega (arith, one.later, fail.cause.rose);
  unsteady = λ steady. fail.cause.unsteady (one.steady steady).0;
}
