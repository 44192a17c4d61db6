-- What a call shows, with what its promise speaks of written out.
use Rattle.std.specs.Prelude.{◌≡◌, ◌⊎◌, ℕ, ◌<◌, ◌≤◌, ◌==◌, ℤ, Bool, true, false, List, [], ◌++◌, All, length}
use Rattle.std.specs.Prelude.{Option, None, Some, Result, Ok, Err, if◌then◌else◌}
use Rattle.std.specs.Io.KnownBytes.{Appends}
use Rattle.io_ports.specs.Bytes.{GainsFront, IsAllOf}
use Rattle.io_ports.specs.Faults.{Rose}
use Rattle.io_ports.specs.Writes.{SinkShows}
use Rattle.scop_syntax.specs.Reductions.{marks}
use Rattle.scop_syntax.specs.Tree.{Program}
use Rattle.scop_syntax.specs.Walk.{walk_of}
use Rattle.scop_parser.specs.Spelling.{SpellsProgram}
use Rattle.data_lines.specs.declared.refusal.DataRefusal.{DataRefusal}
use Rattle.loop_tree.specs.Plans.{walked}
use Rattle.loop_tree.specs.Tiling.{Tiling}
use Rattle.loop_tree.specs.Tree.{Trees}
use Rattle.tile_list.specs.Counting.{HasTiles, HasWaves}
use Rattle.iteration_domains.specs.Model.{model_of}
use Rattle.dataflow.specs.Covering.{covers_of}
use Rattle.dataflow.specs.Flow.{IsResolved}
use Rattle.dataflow.specs.ReadSources.{AreSources, reads_of}
use Rattle.dataflow.specs.Way.TheVariants.{Later}
use Rattle.dataflow.specs.declared.source.ReadSource.{ReadSource}
use Rattle.dataflow.specs.declared.source.SourceStop.{SourceStop}
use Rattle.report_text.specs.Items.{Block}
use Rattle.report_text.specs.KeptText.{kept_text}
use Rattle.report_text.specs.UncertifiedText.{uncertified_text}
use Rattle.report_text.specs.declared.kept_line.KeptLine.{KeptLine}
use Rattle.report_text.specs.declared.unexpanded_line.UnexpandedLine.{UnexpandedLine}
use Rattle.report_text.specs.declared.unexpanded_line.UnexpandedLine.TheVariants as line
use Rattle.report_text.specs.StatusText.{status_text}
use Rattle.report_text.specs.TilesText.{tiles_text}
use Rattle.report_text.specs.declared.status.Status.TheVariants.{BadData, WriteFault}
use Rattle.plan_check.specs.Judged.{judged}
use Rattle.polypar.specs.Certificates.{certificate_of}
use Rattle.command_line.specs.declared.command.RunOptions.{RunOptions}
use Rattle.polypar.specs.Planned.{AreExpanded, ArePlanned, is_tiled}
use Rattle.polypar.specs.Planning.{IsCauseOf, IsSearched}
use Rattle.polypar.specs.Case.{Accepted, Spelled}
use Rattle.polypar.specs.Counting.{IsReleaseOf}
use Rattle.polypar.specs.Cut.{kernel_part}
use Rattle.polypar.specs.Expanding.{first_unresolved, line_of_stop}
use Rattle.polypar.specs.Runs.{are_released, edges_line, release_line, unexpanded_line}

-- the sources of a program's reads within a budget
abbrev pub AreSourcesWithin : ℕ → Program → List ReadSource → Type 0
AreSourcesWithin budget program sources =
    AreSources Later (model_of program) budget (reads_of (model_of program)) sources

-- each is told
abbrev pub AreTold : ℕ → Program → Type 0
AreTold budget program = (sources : List ReadSource) × AreSourcesWithin budget program sources × All IsResolved sources

-- copies that are asked for are not made, for what the line tells: an array is marked; or the first source that is not
-- told stops so; or all are told, and there are more than 2^22 instances
abbrev pub HasNone : RunOptions → Program → List ℤ → List ℕ → UnexpandedLine → Type 0
HasNone options program params marked told =
    (((length marked == 0) ≡ false) × (told ≡ line.Reduce))
    ⊎ (((length marked == 0) ≡ true)
    × (((sources : List ReadSource) × (why : SourceStop) × AreSourcesWithin options.budget program sources
    × (first_unresolved sources ≡ Some why) × (line_of_stop why ≡ Some told))
    ⊎ (AreTold options.budget program × (4194304 < length (walk_of program params)) × (told ≡ line.Copies))))

-- how a run whose report is asked for is planned, behind the line of copies that are not made
abbrev pub IsRunBy : RunOptions → Program → List ℤ → List ℕ → Option UnexpandedLine → Bool → Tiling → List ℕ
    → Trees → Type 0
IsRunBy options program params marked told expanded plan front trees =
    ((((options.expand ≡ false) × (told ≡ None))
    ⊎ ((options.expand ≡ true) × (why : UnexpandedLine) × (told ≡ Some why) × HasNone options program params marked why))
    × (expanded ≡ false) × ArePlanned options.tile options.budget true marked program plan front trees)
    ⊎ ((options.expand ≡ true) × (told ≡ None) × ((length marked == 0) ≡ true) × AreTold options.budget program
    × (length (walk_of program params) ≤ 4194304) × (expanded ≡ is_tiled plan)
    × AreExpanded options.tile options.budget true program plan front trees)

-- `err` gained a report behind the lines of a plan
abbrev pub GainsReport : RunOptions → Option (List ℕ) → SinkShows → SinkShows → Type 0
GainsReport options left err err_after =
    (input : List ℕ) × (accepted : Accepted input) × (marked : List ℕ) × (plan : Tiling) × (trees : Trees)
    × (front : List ℕ) × (told : Option UnexpandedLine) × (expanded : Bool) × (tiles : ℕ) × (waves : ℕ)
    × IsAllOf left input
    × (marked ≡ (if options.reduce then marks accepted.program else []))
    × IsRunBy options accepted.program accepted.params marked told expanded plan front trees
    × HasTiles plan (walked accepted.program accepted.params) tiles
    × HasWaves plan (walked accepted.program accepted.params) waves
    × (edges : Option ℕ)
    × IsReleaseOf (are_released options.sync (length marked == 0)) expanded plan
    (walk_of accepted.program accepted.params) edges
    × Appends err.taken err_after.taken (unexpanded_line told ++ (release_line options.sync (length marked == 0) edges
    ++ (front ++ (tiles_text tiles waves options.workers ++ edges_line edges))))

-- the line of data that is refused: an input was read, whose kernel spells a program, and `err`, which had gained
-- nothing, gained the line with that program's names, or a front of it where its count of faults rose
abbrev pub TellsData : Option (List ℕ) → DataRefusal → SinkShows → SinkShows → Type 0
TellsData left refusal err err_after =
    (input : List ℕ) × (program : Program) × (mid : SinkShows) × IsAllOf left input
    × SpellsProgram (kernel_part input) program × Appends err.taken mid.taken [] × (err.faults ≤ mid.faults)
    × (Appends mid.taken err_after.taken (status_text (Some program) (BadData refusal))
    ⊎ (GainsFront mid.taken err_after.taken (status_text (Some program) (BadData refusal))
    × Rose mid.faults err_after.faults))

-- the status line of a command that is cut off, or a front of it, and then a count had risen before
abbrev pub GainsFault : Option Program → SinkShows → SinkShows → SinkShows → SinkShows → SinkShows → Type 0
GainsFault named out out_after err mid err_after =
    Appends mid.taken err_after.taken (status_text named WriteFault)
    ⊎ (GainsFront mid.taken err_after.taken (status_text named WriteFault)
    × (Rose out.faults out_after.faults ⊎ Rose err.faults mid.faults))

-- the text is the certificate that is given, which the checker accepts; or it tells the number of the goal that has none
abbrev pub IsGiven : Program → Result (List ℕ) ℕ → List ℕ → Type 0
IsGiven program given text =
    ((given ≡ Ok text) × (judged program text ≡ Ok true))
    ⊎ ((goal : ℕ) × (given ≡ Err goal) × (text ≡ uncertified_text goal))

-- `out` gained what certifying the schedule gives that is found, or the line of what keeps the order
abbrev pub GainsCertificate : ℕ → Option (List ℕ) → Option (List ℕ) → Option (List ℕ) → Type 0
GainsCertificate budget left old new =
    (input : List ℕ) × (kernel : Spelled input) × (text : List ℕ) × IsAllOf left input
    × (((blocks : List Block)
    × IsSearched budget (covers_of budget [] (model_of kernel.program)) (model_of kernel.program) blocks
    × IsGiven kernel.program (certificate_of (model_of kernel.program) blocks) text)
    ⊎ ((why : KeptLine)
    × IsCauseOf budget (covers_of budget [] (model_of kernel.program)) (model_of kernel.program) why
    × (text ≡ kept_text why)))
    × Appends old new text
