-- Ports in memory that fail at no call.
use Rattle.std.specs.Prelude.{◌≡◌, ℕ, ◌+◌, ◌≤◌, List, [], length, Option, Some}
use Rattle.io_ports.specs.Memory.{SourceState, SinkState}
use Rattle.scop_syntax.specs.Tree.{Program}
use Rattle.plan_search.specs.Status.{Status}
use Rattle.plan_search.specs.StatusText.{status_text}
use Rattle.polypar.specs.Told.{Told}
use Rattle.polypar.specs.Deserves.{Asks}
use Rattle.polypar.specs.Answered.{NamesOf}

-- no call is listed to fail, and none has failed yet
pub record NeverFail (source : SourceState) (out err : SinkState) : Type 0 where
  pub source_fails : source.fails ≡ []
  pub source_faults : source.faults ≡ 0
  pub out_fails : out.fails ≡ []
  pub out_faults : out.faults ≡ 0
  pub err_fails : err.fails ≡ []
  pub err_faults : err.faults ≡ 0

-- the sink has room for the text
abbrev pub Holds : SinkState → List ℕ → Type 0
Holds sink text = length sink.taken + length text ≤ sink.capacity

-- the sinks have room for each text and for the lines that the words and the input may ask for
abbrev pub HoldsText : List (List ℕ) → List ℕ → SinkState → SinkState → Type 0
HoldsText words input out err = (told : Told) → Asks words input told → Holds out told.text × Holds err told.lines

-- it has room for each line that may tell the status
abbrev pub HoldsLine : List ℕ → Status → SinkState → Type 0
HoldsLine input status err = (named : Option Program) → NamesOf (Some input) status named
    → Holds err (status_text named status)
