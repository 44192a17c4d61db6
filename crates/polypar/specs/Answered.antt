-- What a call of the program promises, from the words and from what the source and the sinks show before and after it.
use Rattle.std.specs.Prelude.{◌≡◌, ◌≢◌, ◌⊎◌, ℕ, ◌≤◌, List, [], ◌++◌, Option, Some, None, ⊤}
use Rattle.std.specs.Io.KnownBytes.{Appends}
use Rattle.io_ports.specs.Faults.{Rose}
use Rattle.io_ports.specs.Bytes.{IsAllOf, GainsFront}
use Rattle.io_ports.specs.Reads.{SourceShows, IsSteady}
use Rattle.io_ports.specs.Writes.{SinkShows, HasRoom}
use Rattle.plan_search.specs.Status.{Status}
use Rattle.plan_search.specs.Status.TheVariants.{Done, Usage, BadData, ReadFault, WriteFault, NoMemory}
use Rattle.scop_syntax.specs.Tree.{Program}
use Rattle.scop_parser.specs.Spelling.{SpellsProgram}
use Rattle.polypar.specs.Case.{Accepted, asked_text, Spelled}
use Rattle.polypar.specs.Checking.{IsGoodAlways, yes_text}
use Rattle.plan_check.specs.Judged.{SaysPlan}
use Rattle.plan_check.specs.Plans.{Plan}
use Rattle.plan_search.specs.Certifying.{IsCertificateText}
use Rattle.plan_search.specs.Planning.{IsPlanText}
use Rattle.polypar.specs.Sources.{IsSourcesText}
use Rattle.polypar.specs.Emitting.{IsLoopsText}
use Rattle.polypar.specs.Runs.{AreRunLines, IsSummaryText}
use Rattle.polypar.specs.Told.{Told}
use Rattle.command_line.specs.declared.command.GeneratedKernel.{GeneratedKernel}
use Rattle.command_line.specs.declared.command.RunOptions.{RunOptions}
use Rattle.command_line.specs.Command.{IsTaken, command_of}
use Rattle.command_line.specs.Command.{IsRunCommand, IsScheduleCommand, IsDepsCommand, IsEmitCommand, IsGenCommand}
use Rattle.command_line.specs.Command.{IsCertifyCommand, IsCheckCommand}
use Rattle.polypar.specs.Cut.{kernel_part, data_part}
use Rattle.polypar.specs.Deserves.{Deserves, Asks, IsReadBy}
use Rattle.plan_search.specs.StatusText.{status_text}

-- an accepted input was read, and exactly the text of the arrays that it asks for was printed; `err` has gained exactly
-- the lines that tell why there are no copies, why tiles go by waves and why the order is kept, where it is so, and the
-- report, where one is asked for
abbrev pub PrintsArrays : RunOptions → Option (List ℕ) → SinkShows → SinkShows → SinkShows → SinkShows → Type 0
PrintsArrays options left out out_after err err_after =
    (input : List ℕ) × (accepted : Accepted input) × (lines : List ℕ) × IsAllOf left input
    × AreRunLines options accepted.program accepted.params lines
    × Appends out.taken out_after.taken (asked_text accepted) × Appends err.taken err_after.taken lines

-- an input that spells a kernel was read, and exactly a text that is one of its program was printed
abbrev pub PrintsText : (Program → List ℕ → Type 0) → Option (List ℕ) → Option (List ℕ) → Option (List ℕ) → Type 0
PrintsText IsTextOf left old new =
    (input : List ℕ) × (kernel : Spelled input) × (text : List ℕ) × IsAllOf left input
    × IsTextOf kernel.program text × Appends old new text

-- the text of its schedule, or the kept line of a cause that holds
abbrev pub PrintsPlan : ℕ → Option (List ℕ) → Option (List ℕ) → Option (List ℕ) → Type 0
PrintsPlan budget left old new = PrintsText (IsPlanText budget) left old new

-- the text of the sources of its reads, each of which, where it is resolved, names the last writer
abbrev pub PrintsSources : ℕ → Option (List ℕ) → Option (List ℕ) → Option (List ℕ) → Type 0
PrintsSources budget left old new = PrintsText (IsSourcesText budget) left old new

-- an input that spells a kernel was read, and exactly what is told of its program was written: the text to `out`, the
-- lines to `err`
abbrev pub PrintsTold : (Program → Told → Type 0) → Option (List ℕ) → SinkShows → SinkShows → SinkShows → SinkShows
    → Type 0
PrintsTold IsToldOf left out out_after err err_after =
    (input : List ℕ) × (kernel : Spelled input) × (told : Told) × IsAllOf left input × IsToldOf kernel.program told
    × Appends out.taken out_after.taken told.text × Appends err.taken err_after.taken told.lines

-- the text of loops that carry out its plan, and, if the order is kept, the line of the cause
abbrev pub PrintsLoops : ℕ → ℕ → Option (List ℕ) → SinkShows → SinkShows → SinkShows → SinkShows → Type 0
PrintsLoops tile budget left out out_after err err_after =
    PrintsTold (IsLoopsText tile budget) left out out_after err err_after

-- an input that spells a kernel was read, and exactly `yes` and a line feed was printed; the plan that the text behind
-- the kernel says is good for every size of tiles and all parameters in 0..=65536
abbrev pub ChecksPlan : Option (List ℕ) → Option (List ℕ) → Option (List ℕ) → Type 0
ChecksPlan left old new =
    (input : List ℕ) × (kernel : Spelled input) × (plan : Plan) × IsAllOf left input
    × SaysPlan kernel.program (data_part input) plan × IsGoodAlways kernel.program plan × Appends old new yes_text

-- the certificate of its schedule, the number of the first goal that has none, or the kept line of a cause that holds
abbrev pub PrintsCertificate : ℕ → Option (List ℕ) → Option (List ℕ) → Option (List ℕ) → Type 0
PrintsCertificate budget left old new = PrintsText (IsCertificateText budget) left old new

-- exactly the summary of the generated kernel's run was printed, and the line of a kept order, if it is kept
abbrev pub PrintsSummary : GeneratedKernel → RunOptions → SinkShows → SinkShows → SinkShows → SinkShows → Type 0
PrintsSummary generated options out out_after err err_after =
    (told : Told) × IsSummaryText generated options told
    × Appends out.taken out_after.taken told.text × Appends err.taken err_after.taken told.lines

-- a front of the text that the words and the input ask for was printed
abbrev pub PrintsFront : List (List ℕ) → Option (List ℕ) → Option (List ℕ) → Option (List ℕ) → Type 0
PrintsFront words left old new = (input : List ℕ) × (told : Told) × IsAllOf left input × Asks words input told
    × GainsFront old new told.text

-- the status is the one that the words and the input deserve
abbrev pub IsDeserved : List (List ℕ) → Option (List ℕ) → Status → Type 0
IsDeserved words left status = (input : List ℕ) × IsAllOf left input × Deserves words input status

-- the program whose names a status line has: it is the one that was read, which the input's text before its first line
-- `%%` spells; where none was read no name is told, so data is not what is refused
abbrev pub NamesOf : Option (List ℕ) → Status → Option Program → Type 0
NamesOf left status (Some program) = (input : List ℕ) × IsAllOf left input × SpellsProgram (kernel_part input) program
NamesOf left (BadData refusal) None = ⊥
NamesOf left status None = ⊤

-- a text begins with another
abbrev pub IsFrontOf : List ℕ → List ℕ → Type 0
IsFrontOf front text = (rest : List ℕ) × (text ≡ front ++ rest)

-- what the sinks have gained of what the words and the input ask for, where `err` has these lines of it: at Done all;
-- at a write fault all lines and a front of the text, or a front of the lines and nothing of the text; else nothing
abbrev pub HasLines : List (List ℕ) → Option (List ℕ) → Status → SinkShows → SinkShows → List ℕ → Type 0
HasLines words left Done out out_after lines =
    (input : List ℕ) × (told : Told) × IsAllOf left input × Asks words input told
    × Appends out.taken out_after.taken told.text × (lines ≡ told.lines)
HasLines words left WriteFault out out_after lines =
    (input : List ℕ) × (told : Told) × IsAllOf left input × Asks words input told
    × (((lines ≡ told.lines) × GainsFront out.taken out_after.taken told.text)
    ⊎ (IsFrontOf lines told.lines × (out_after ≡ out)))
HasLines words left other out out_after lines = lines ≡ []

-- `err` gained these lines, and showed `mid` then
pub record GainsTo (err mid : SinkShows) (lines : List ℕ) : Type 0 where
  pub gained : Appends err.taken mid.taken lines
  pub later : err.faults ≤ mid.faults

-- the count of `err` rose at the status line, before which it showed `mid`; a write fault had its cause by then
abbrev pub RoseAtLine : Status → SinkShows → SinkShows → SinkShows → SinkShows → SinkShows → Type 0
RoseAtLine status out out_after err mid err_after =
    Rose mid.faults err_after.faults
    × (status ≡ WriteFault → Rose out.faults out_after.faults ⊎ Rose err.faults mid.faults)

-- from `mid` on `err` gained the status line; a front of it where its count of faults rose at this line
abbrev pub GainsLine : Option Program → Status → SinkShows → SinkShows → SinkShows → SinkShows → SinkShows → Type 0
GainsLine named status out out_after err mid err_after =
    Appends mid.taken err_after.taken (status_text named status)
    ⊎ (GainsFront mid.taken err_after.taken (status_text named status)
    × RoseAtLine status out out_after err mid err_after)

-- no count of faults rose
pub record NoneRose (source source_after : SourceShows) (out out_after err err_after : SinkShows) : Type 0 where
  pub of_source : Rose source.faults source_after.faults → ⊥
  pub of_out : Rose out.faults out_after.faults → ⊥
  pub of_err : Rose err.faults err_after.faults → ⊥

-- every count of faults is as it was
pub record CountsStay (source source_after : SourceShows) (out out_after err err_after : SinkShows) : Type 0 where
  pub of_source : source_after.faults ≡ source.faults
  pub of_out : out_after.faults ≡ out.faults
  pub of_err : err_after.faults ≡ err.faults

-- there is room for each text and for the lines that the words and the input may ask for
abbrev pub HasRoomForText : List (List ℕ) → Option (List ℕ) → SinkShows → SinkShows → Type 0
HasRoomForText words left out err = (input : List ℕ) (told : Told) → IsAllOf left input → Asks words input told
    → HasRoom out told.text × HasRoom err told.lines

-- there is room for each line that may tell the status
abbrev pub HasRoomForLine : Option (List ℕ) → Status → SinkShows → Type 0
HasRoomForLine left status err = (named : Option Program) → NamesOf left status named
    → HasRoom err (status_text named status)

-- what a call promises: the headline, each status and its cause, and what the source and the sinks show afterwards
pub record Answered (words : List (List ℕ)) (status : Status) (source source_after : SourceShows)
    (out out_after err err_after : SinkShows) : Type 0 where
  -- the headline: of `run` exactly the arrays of the kernel's own sequential execution are printed, for any number of
  -- workers and any tiles, of `schedule` the schedule of the determined run over the kernel's covers, or why its
  -- order is kept, of `deps` for each read that is resolved its last write, of `emit` loops that visit each instance
  -- once, conflicting ones in order, of `gen` what the generated kernel's own execution leaves, of `check` that the plan
  -- is good for every size of tiles and all parameters, of `certify` the certificate of the schedule, which `check`
  -- accepts, the number of the first goal that has none, or why the order is kept; and the input was read whole
  pub done : (options : RunOptions) → IsRunCommand options words → status ≡ Done
      → PrintsArrays options source.left out out_after err err_after
  pub scheduled : (budget : ℕ) → IsScheduleCommand budget words → status ≡ Done
      → PrintsPlan budget source.left out.taken out_after.taken
  pub sourced : (budget : ℕ) → IsDepsCommand budget words → status ≡ Done
      → PrintsSources budget source.left out.taken out_after.taken
  pub emitted : (tile budget : ℕ) → IsEmitCommand tile budget words → status ≡ Done
      → PrintsLoops tile budget source.left out out_after err err_after
  pub generated : (kernel : GeneratedKernel) (options : RunOptions) → IsGenCommand kernel options words
      → status ≡ Done → PrintsSummary kernel options out out_after err err_after
  pub checked : IsCheckCommand words → status ≡ Done → ChecksPlan source.left out.taken out_after.taken
  pub certified : (budget : ℕ) → IsCertifyCommand budget words → status ≡ Done
      → PrintsCertificate budget source.left out.taken out_after.taken
  pub read_whole : status ≡ Done → IsReadBy (command_of words) source source_after
  -- each status and its cause; want of memory may come over words too
  pub usage : status ≡ Usage → IsTaken words → ⊥
  pub stranger : (IsTaken words → ⊥) → (status ≡ Usage) ⊎ (status ≡ NoMemory)
  pub unread : status ≡ Usage → source_after ≡ source
  pub deserved : status ≢ ReadFault → status ≢ WriteFault → status ≢ NoMemory → IsDeserved words source.left status
  pub read_fault : status ≡ ReadFault → Rose source.faults source_after.faults
  pub write_fault : status ≡ WriteFault → Rose out.faults out_after.faults ⊎ Rose err.faults err_after.faults
  -- what the sinks have gained; `err` first the lines of the command, then that of the status
  pub written : status ≡ WriteFault → PrintsFront words source.left out.taken out_after.taken
  pub nothing : status ≢ Done → status ≢ WriteFault → out_after ≡ out
  pub error_line : (named : Option Program) × NamesOf source.left status named
      × (lines : List ℕ) × (mid : SinkShows) × HasLines words source.left status out out_after lines
      × GainsTo err mid lines × GainsLine named status out out_after err mid err_after
  -- a told input gets the status that it deserves, or memory ran out, where no count of faults rose
  pub decided : (input : List ℕ) (verdict : Status) → source.left ≡ Some input → Deserves words input verdict
      → NoneRose source source_after out out_after err err_after → (status ≡ verdict) ⊎ (status ≡ NoMemory)
  -- a steady source, and room for the text, the lines and the status line, leave every count as it was
  pub calm : IsSteady source → HasRoomForText words source.left out err → HasRoomForLine source.left status err
      → CountsStay source source_after out out_after err err_after
