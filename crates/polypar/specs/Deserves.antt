-- The status that words and an input deserve where nothing fails: check after check in the order of work, and the
-- status of the first that is not passed.
use Rattle.std.specs.Prelude.{◌≡◌, ◌⊎◌, ℕ, ◌^◌, ◌<◌, ℤ, true, List, length, Some, Ok, Err, ⊤}
use Rattle.std.specs.Io.KnownBytes.{IsAtEnd}
use Rattle.io_ports.specs.Reads.{SourceShows}
use Rattle.scop_syntax.specs.Tree.{Program}
use Rattle.scop_syntax.specs.Walk.{walk_of}
use Rattle.scop_syntax.specs.Execution.{layout, IsInside}
use Rattle.scop_syntax.specs.Failures.{Failure, first_outside}
use Rattle.scop_meaning.specs.Outside.{outside_of}
use Rattle.scop_parser.specs.Spelling.{SpellsProgram, IsRefusedAs}
use Rattle.scop_parser.specs.declared.refusal.Refusal.{Refusal}
use Rattle.scop_parser.specs.RefusalKind.TheVariants.{TooLong}
use Rattle.data_lines.specs.declared.refusal.DataRefusal.{DataRefusal}
use Rattle.data_text.specs.Cases.{Says, data_said}
use Rattle.plan_check.specs.Judged.{judged}
use Rattle.plan_check.specs.Judged.{Rejected as Fault}
use Rattle.plan_search.specs.Status.{Status}
use Rattle.plan_search.specs.Status.TheVariants.{Done, Usage, Refused, BadData, Outside, ReadFault}
use Rattle.plan_search.specs.Status.TheVariants.{WriteFault, NoMemory, Rejected}
use Rattle.command_line.specs.declared.command.Command.{Command}
use Rattle.command_line.specs.declared.command.Command.TheVariants.{Run, OfKernel, Check, Gen}
use Rattle.command_line.specs.Command.{IsTaken, command_of}
use Rattle.polypar.specs.Cut.{kernel_part, data_part}
use Rattle.polypar.specs.Case.{IsShort, Accepted, Spelled}
use Rattle.polypar.specs.Checking.{IsAccepted}
use Rattle.polypar.specs.Told.{Told, HasHeldLines, IsHeld}
use Rattle.polypar.specs.Runs.{IsRunText, IsSummaryText}
use Rattle.polypar.specs.KernelText.{IsTextFor}

-- every subscript lies in its extent, or the first that does not is told
abbrev pub DeservesCase : Program → List ℤ → Status → Type 0
DeservesCase program params status =
    (IsInside program params × (status ≡ Done))
    ⊎ ((f : Failure) × (first_outside (layout program params) (walk_of program params) ≡ Some f)
    × (status ≡ Outside (outside_of f)))

-- the data says a case of the program, or the first rule that it breaks is told
abbrev pub DeservesData : Program → List ℕ → Status → Type 0
DeservesData program text status =
    ((params : List ℤ) × (contents : List (List ℕ)) × Says text program params contents
    × DeservesCase program params status)
    ⊎ ((refusal : DataRefusal) × (data_said program text ≡ Err refusal) × (status ≡ BadData refusal))

-- the text spells a program, or its first fault is told, with its kind, its line and its column
abbrev pub DeservesText : List ℕ → List ℕ → Status → Type 0
DeservesText kernel text status =
    ((program : Program) × SpellsProgram kernel program × DeservesData program text status)
    ⊎ ((refusal : Refusal) × IsRefusedAs kernel refusal × (status ≡ Refused refusal))

-- an input that is too long is refused at its first byte
abbrev pub too_long : Status
too_long = Refused (record { kind = TooLong; line = 1; column = 1 })

-- the input is short enough, or too long
abbrev pub DeservesInput : List ℕ → Status → Type 0
DeservesInput input status =
    (IsShort input × DeservesText (kernel_part input) (data_part input) status)
    ⊎ ((2 ^ 27 < length input) × (status ≡ too_long))

-- of a command that looks at the kernel alone: the text spells a program, or its first fault is told
abbrev pub DeservesKernel : List ℕ → Status → Type 0
DeservesKernel kernel status =
    ((program : Program) × SpellsProgram kernel program × (status ≡ Done))
    ⊎ ((refusal : Refusal) × IsRefusedAs kernel refusal × (status ≡ Refused refusal))

-- of such a command: the input is short enough, or too long
abbrev pub DeservesSpelled : List ℕ → Status → Type 0
DeservesSpelled input status =
    (IsShort input × DeservesKernel (kernel_part input) status)
    ⊎ ((2 ^ 27 < length input) × (status ≡ too_long))

-- the text behind a program is accepted as a certificate, or its first fault is told, with its kind and its line
abbrev pub DeservesCertificate : Program → List ℕ → Status → Type 0
DeservesCertificate program text status =
    ((judged program text ≡ Ok true) × (status ≡ Done))
    ⊎ ((fault : Fault) × (judged program text ≡ Err fault) × (status ≡ Rejected fault.kind fault.line))

-- of `check`: the text spells a program, or its first fault is told
abbrev pub DeservesJudged : List ℕ → List ℕ → Status → Type 0
DeservesJudged kernel text status =
    ((program : Program) × SpellsProgram kernel program × DeservesCertificate program text status)
    ⊎ ((refusal : Refusal) × IsRefusedAs kernel refusal × (status ≡ Refused refusal))

-- of `check`: the input is short enough, or too long
abbrev pub DeservesChecked : List ℕ → Status → Type 0
DeservesChecked input status =
    (IsShort input × DeservesJudged (kernel_part input) (data_part input) status)
    ⊎ ((2 ^ 27 < length input) × (status ≡ too_long))

-- of a command; `gen` looks at no input
abbrev pub DeservesFor : Command → List ℕ → Status → Type 0
DeservesFor (Run options) input status = DeservesInput input status
DeservesFor (OfKernel asked) input status = DeservesSpelled input status
DeservesFor Check input status = DeservesChecked input status
DeservesFor (Gen generated options) input status = status ≡ Done

-- the words are taken, or not
abbrev pub Deserves : List (List ℕ) → List ℕ → Status → Type 0
Deserves words input status =
    (IsTaken words × DeservesFor (command_of words) input status)
    ⊎ ((IsTaken words → ⊥) × (status ≡ Usage))

-- a status that words and an input decide: no fault of a port, and no want of memory
abbrev pub IsVerdict : Status → Type 0
IsVerdict ReadFault = ⊥
IsVerdict WriteFault = ⊥
IsVerdict NoMemory = ⊥
IsVerdict other = ⊤

-- an input asks a command for this: `run` for the arrays of its accepted case, `check` for `yes` where the certificate
-- is accepted, another for what it tells of the kernel, as far as memory can hold that; `gen` asks for the summary,
-- whatever the input
abbrev pub AsksFor : Command → List ℕ → Told → Type 0
AsksFor (Run options) input told =
    (accepted : Accepted input)
    × IsRunText options accepted.program accepted.params accepted.contents told × HasHeldLines told
AsksFor (OfKernel asked) input told = (kernel : Spelled input) × IsTextFor asked kernel.program told × IsHeld told
AsksFor Check input told = (kernel : Spelled input) × IsAccepted kernel.program (data_part input) told
AsksFor (Gen generated options) input told = IsSummaryText generated options told × IsHeld told

-- the words and the input ask for this
abbrev pub Asks : List (List ℕ) → List ℕ → Told → Type 0
Asks words input told = IsTaken words × AsksFor (command_of words) input told

-- the source was read as the command reads it: to its end, or, for `gen`, not at all
abbrev pub IsReadBy : Command → SourceShows → SourceShows → Type 0
IsReadBy (Gen generated options) source source_after = source_after ≡ source
IsReadBy other source source_after = IsAtEnd source_after.left
