-- What the statuses of the parts of a call say: of the data, of the input, of the source, and of the sinks; only for
-- the code's own steps.
use Rattle.std.specs.Prelude.{◌≡◌, ◌⊎◌, ℕ, ℤ, ◌≤◌, List, Option, Result, MatchResult, ⊤}
use Rattle.std.specs.Io.KnownBytes.{Appends}
use Rattle.io_ports.specs.Faults.{Rose}
use Rattle.io_ports.specs.Bytes.{IsAllOf, GainsFront}
use Rattle.io_ports.specs.Reads.{SourceShows, IsSteady, IsReadFault}
use Rattle.io_ports.specs.Writes.{SinkShows, HasRoom, Takes, CutsOff}
use Rattle.scop_syntax.specs.Tree.{Program}
use Rattle.scop_syntax.specs.Execution.{IsInside}
use Rattle.data_text.specs.Cases.{Says}
use Rattle.plan_search.specs.Status.{Status}
use Rattle.plan_search.specs.Status.TheVariants.{Done, Usage, BadData, Outside, ReadFault, WriteFault}
use Rattle.plan_search.specs.Status.TheVariants.{NoMemory, Rejected}
use Rattle.plan_search.specs.StatusText.{status_text}
use Rattle.command_line.specs.declared.command.Command.{Command}
use Rattle.command_line.specs.declared.command.Command.TheVariants.{Run, OfKernel, Check, Gen}
use Rattle.command_line.specs.declared.command.KernelCommand.{KernelCommand}
use Rattle.command_line.specs.declared.command.RunOptions.{RunOptions}
use Rattle.command_line.specs.Command.{IsTaken, command_of}
use Rattle.polypar.specs.declared.told.Told as code
use Rattle.polypar.specs.Told.{Told, HasHeldLines, IsHeld, told_of}
use Rattle.polypar.specs.KernelText.{IsTextFor}
use Rattle.polypar.specs.Runs.{IsRunText}
use Rattle.polypar.specs.Checking.{IsAccepted}
use Rattle.polypar.specs.Answered.{NamesOf}
use Rattle.polypar.specs.Deserves.{DeservesCase, DeservesCertificate, DeservesData, DeservesFor, AsksFor}
use Rattle.polypar.specs.Deserves.{IsReadBy}

-- all that is told was written: the text to `out`, the lines to `err`
pub record WritesTold (told : Told) (out out_after err err_after : SinkShows) : Type 0 where
  pub text : Takes out out_after told.text
  pub lines : Takes err err_after told.lines

-- it was cut off: in the lines, before anything of the text; or behind the lines, in the text or at its end. A count of
-- faults rose, and there was no room for all
pub record CutsTold (told : Told) (out out_after err err_after : SinkShows) : Type 0 where
  pub gained : (GainsFront err.taken err_after.taken told.lines × (out_after ≡ out))
      ⊎ (Appends err.taken err_after.taken told.lines × GainsFront out.taken out_after.taken told.text)
  pub later : err.faults ≤ err_after.faults
  pub rose : Rose out.faults out_after.faults ⊎ Rose err.faults err_after.faults
  pub full : HasRoom out told.text → HasRoom err told.lines → ⊥

-- both sinks are as they were
pub record AreUntouched (out out_after err err_after : SinkShows) : Type 0 where
  pub out_is : out_after ≡ out
  pub err_is : err_after ≡ err

-- what is told is something of which this holds: it was told, or cut off
abbrev pub AnswersTold : (Told → Type 0) → Status → SinkShows → SinkShows → SinkShows → SinkShows → Type 0
AnswersTold IsAsked Done out out_after err err_after =
    (told : Told) × IsAsked told × WritesTold told out out_after err err_after
AnswersTold IsAsked WriteFault out out_after err err_after =
    (told : Told) × IsAsked told × CutsTold told out out_after err err_after
AnswersTold IsAsked NoMemory out out_after err err_after = AreUntouched out out_after err err_after
AnswersTold IsAsked _ out out_after err err_after = ⊥

-- of what was made to be told, which lies in memory; it was not made where memory ran out
abbrev pub AnswersMade : {E : Type 0} → Result code.Told E → Status → SinkShows → SinkShows → SinkShows → SinkShows
    → Type 0
AnswersMade made status out out_after err err_after = MatchResult made
    (λ told. AnswersTold (λ t. (t ≡ told_of told) × IsHeld t) status out out_after err err_after)
    (λ _. (status ≡ NoMemory) × AreUntouched out out_after err err_after)

-- what `run` is to tell of a case whose subscripts are inside
abbrev pub AsksRun : RunOptions → Program → List ℤ → List (List ℕ) → Told → Type 0
AsksRun options program params contents told =
    IsInside program params × IsRunText options program params contents told × HasHeldLines told

-- of a case of a program, and of the sinks; memory may be wanting only where every subscript is inside
abbrev pub AnswersCase : RunOptions → Status → Program → List ℤ → List (List ℕ) → SinkShows → SinkShows
    → SinkShows → SinkShows → Type 0
AnswersCase options (Outside f) program params contents out out_after err err_after =
    DeservesCase program params (Outside f) × AreUntouched out out_after err err_after
AnswersCase options NoMemory program params contents out out_after err err_after =
    IsInside program params × AreUntouched out out_after err err_after
AnswersCase options status program params contents out out_after err err_after =
    AnswersTold (AsksRun options program params contents) status out out_after err err_after

-- what `run` is to tell of data
abbrev pub AsksData : RunOptions → Program → List ℕ → Told → Type 0
AsksData options program text told =
    (params : List ℤ) × (contents : List (List ℕ)) × Says text program params contents
    × AsksRun options program params contents told

-- of the data of a program, and of the sinks
abbrev pub AnswersData : RunOptions → Status → Program → List ℕ → SinkShows → SinkShows → SinkShows
    → SinkShows → Type 0
AnswersData options (BadData refusal) program text out out_after err err_after =
    DeservesData program text (BadData refusal) × AreUntouched out out_after err err_after
AnswersData options (Outside f) program text out out_after err err_after =
    DeservesData program text (Outside f) × AreUntouched out out_after err err_after
AnswersData options status program text out out_after err err_after =
    AnswersTold (AsksData options program text) status out out_after err err_after

-- of a program of which alone something is asked, and of the sinks
abbrev pub AnswersProgram : KernelCommand → Status → Program → SinkShows → SinkShows → SinkShows → SinkShows → Type 0
AnswersProgram asked status program out out_after err err_after =
    AnswersTold (λ told. IsTextFor asked program told × IsHeld told) status out out_after err err_after

-- of the certificate behind a program, and of the sinks
abbrev pub AnswersCertificate : Status → Program → List ℕ → SinkShows → SinkShows → SinkShows → SinkShows → Type 0
AnswersCertificate (Rejected kind line) program text out out_after err err_after =
    DeservesCertificate program text (Rejected kind line) × AreUntouched out out_after err err_after
AnswersCertificate status program text out out_after err err_after =
    AnswersTold (IsAccepted program text) status out out_after err err_after

-- the command reads an input
abbrev pub ReadsKernel : Command → Type 0
ReadsKernel (Gen generated options) = ⊥
ReadsKernel other = ⊤

-- of a program, its data and a command that reads an input, and of the sinks
abbrev pub AnswersKernel : Command → Status → Program → List ℕ → SinkShows → SinkShows → SinkShows → SinkShows → Type 0
AnswersKernel (Run options) status program text out out_after err err_after =
    AnswersData options status program text out out_after err err_after
AnswersKernel (OfKernel asked) status program text out out_after err err_after =
    AnswersProgram asked status program out out_after err err_after
AnswersKernel Check status program text out out_after err err_after =
    AnswersCertificate status program text out out_after err err_after
AnswersKernel (Gen generated options) status program text out out_after err err_after = ⊥

-- of an input that a command was given, and of the sinks
abbrev pub AnswersFor : Command → Status → List ℕ → SinkShows → SinkShows → SinkShows → SinkShows → Type 0
AnswersFor command Done input out out_after err err_after =
    (told : Told) × AsksFor command input told × WritesTold told out out_after err err_after
AnswersFor command WriteFault input out out_after err err_after =
    (told : Told) × AsksFor command input told × CutsTold told out out_after err err_after
AnswersFor command NoMemory input out out_after err err_after = AreUntouched out out_after err err_after
AnswersFor command Usage input out out_after err err_after = ⊥
AnswersFor command ReadFault input out out_after err err_after = ⊥
AnswersFor command refusal input out out_after err err_after =
    DeservesFor command input refusal × AreUntouched out out_after err err_after

-- the source was read, to its end or not; a steady one counted no fault
pub record IsReadOn (old new : SourceShows) : Type 0 where
  pub later : old.faults ≤ new.faults
  pub steady : IsSteady old → new.faults ≡ old.faults

-- the input was read as far as the command reads it, and answered
pub record ReadsInput (command : Command) (status : Status) (source source_after : SourceShows)
    (out out_after err err_after : SinkShows) : Type 0 where
  pub input : List ℕ
  pub whole : IsAllOf source.left input
  pub answer : AnswersFor command status input out out_after err err_after
  pub read : status ≡ Done → IsReadBy command source source_after

-- the source failed
pub record IsBroken (status : Status) (source source_after : SourceShows) (out out_after err err_after : SinkShows)
    : Type 0 where
  pub fault : status ≡ ReadFault
  pub cause : IsReadFault source source_after
  pub untouched : AreUntouched out out_after err err_after

-- of a command
abbrev pub AnswersCommand : Command → Status → SourceShows → SourceShows → SinkShows → SinkShows → SinkShows
    → SinkShows → Type 0
AnswersCommand command status source source_after out out_after err err_after =
    ReadsInput command status source source_after out out_after err err_after
    ⊎ IsBroken status source source_after out out_after err err_after

-- how this answer ended: the program whose names its line has is the one that was read, and the source was read on
pub record Ends (Answer : Type 0) (status : Status) (named : Option Program) (source source_after : SourceShows)
    : Type 0 where
  pub answer : Answer
  pub names : NamesOf source.left status named
  pub read_on : IsReadOn source source_after

-- the words were not taken, or memory ran out over them, and nothing was done
pub record IsNoCommand (words : List (List ℕ)) (status : Status) (source source_after : SourceShows)
    (out out_after err err_after : SinkShows) : Type 0 where
  pub usage : ((status ≡ Usage) × (IsTaken words → ⊥)) ⊎ (status ≡ NoMemory)
  pub unread : source_after ≡ source
  pub untouched : AreUntouched out out_after err err_after

-- of all of a call but the line that tells its status
abbrev pub AnswersWords : List (List ℕ) → Status → SourceShows → SourceShows → SinkShows → SinkShows → SinkShows
    → SinkShows → Type 0
AnswersWords words status source source_after out out_after err err_after =
    IsNoCommand words status source source_after out out_after err err_after
    ⊎ (IsTaken words × AnswersCommand (command_of words) status source source_after out out_after err err_after)

-- of the line, with the names of the program that was read: it was written, or cut off
abbrev pub TellsStatus : Option Program → Status → SinkShows → SinkShows → Type 0
TellsStatus named status old new = Takes old new (status_text named status) ⊎ CutsOff old new (status_text named status)
