-- The command lines that the program takes, and the commands that they name.
use Rattle.std.specs.Prelude.{◌≡◌, ◌≤◌, ℕ, Bool, false, List, [], ◌∷◌, codes, Option, None, Some, ⊤}
use Rattle.std.specs.Prelude.{if◌then◌else◌, is_some, option_and_then, option_map, unwrap_or, true}
use Rattle.std.specs.Option.{option_map_or}
use Rattle.std.specs.Str.{bytes_eq}
use Rattle.std.specs.Str.Parse.{digits_value, without_leading_plus}
use Rattle.clap.specs.Words.{Row, Text, fault_of, first_of, one_of, subcommand_of}
use Rattle.clap.specs.ValueTests.{is_unsigned_in}
use Rattle.kernel_gen.specs.declared.kind.Kind.{Kind}
use Rattle.kernel_gen.specs.declared.kind.Kind.TheVariants.{Product, Sweep, Chain}
use Rattle.command_line.specs.declared.command.Command.{Command}
use Rattle.command_line.specs.declared.command.Command.TheVariants.{Run, OfKernel, Check, Gen}
use Rattle.command_line.specs.declared.command.GeneratedKernel.{GeneratedKernel}
use Rattle.command_line.specs.declared.command.KernelCommand.{KernelCommand}
use Rattle.command_line.specs.declared.command.KernelCommand.TheVariants.{Schedule, Deps, Emit, Certify}
use Rattle.command_line.specs.declared.command.RunOptions.{RunOptions}
use Rattle.command_line.specs.declared.command.Sync.{Sync}
use Rattle.command_line.specs.declared.command.Sync.TheVariants.{Waves, Tiles}
use Rattle.command_line.specs.Stated.{most_moves, most_size, most_tile, most_workers, tool}

-- how many workers where none are given
abbrev pub usual_workers : ℕ
usual_workers = 1

-- the size of tiles where none is given
abbrev pub usual_tile : ℕ
usual_tile = 32

-- the number of 64 bits that a text reads as; the usual one where it reads as none
abbrev pub number_of : ℕ → Text → ℕ
number_of usual text =
    if is_unsigned_in 0 18446744073709551615 text then digits_value 10 (without_leading_plus text) else usual

-- the value of an argument, or the usual one where it is not given
abbrev pub number_in : Text → ℕ → List Row → ℕ
number_in name usual rows = option_map_or (number_of usual) (one_of name rows) usual

-- a flag is given
abbrev pub flag_in : Text → List Row → Bool
flag_in name rows = option_map_or (λ text. bytes_eq text (codes "true")) (one_of name rows) false

-- the options of a run whose tiles begin so; a command without `--report`, `--expand` and `--reduce` has no rows of
-- these names
abbrev pub run_options_in : Sync → List Row → RunOptions
run_options_in sync rows = record {
  workers = number_in (codes "workers") usual_workers rows;
  tile = number_in (codes "tile") usual_tile rows;
  budget = number_in (codes "budget") most_moves rows;
  report = flag_in (codes "report") rows;
  expand = flag_in (codes "expand") rows;
  sync = sync;
  reduce = flag_in (codes "reduce") rows;
}

-- when tiles begin, by a text
abbrev pub sync_named : Text → Option Sync
sync_named text =
    if bytes_eq text (codes "waves") then Some Waves
    else (if bytes_eq text (codes "tiles") then Some Tiles else None)

-- the value of `--sync`: by waves where it is not given
abbrev pub sync_in : List Row → Option Sync
sync_in rows = option_map_or sync_named (first_of (codes "sync") rows) (Some Waves)

-- the kind that a text names
abbrev pub kind_named : Text → Option Kind
kind_named text =
    if bytes_eq text (codes "product") then Some Product
    else (if bytes_eq text (codes "sweep") then Some Sweep
    else (if bytes_eq text (codes "chain") then Some Chain else None))

-- the value of KIND
abbrev pub kind_in : List Row → Option Kind
kind_in rows = option_and_then kind_named (first_of (codes "kind") rows)

-- the kernel of a kind, SEED and SIZE
abbrev pub kernel_of : List Row → Kind → GeneratedKernel
kernel_of rows kind = record {
  kind = kind;
  seed = number_in (codes "seed") 0 rows;
  size = number_in (codes "size") 1 rows;
}

-- the kernel of KIND, SEED and SIZE
abbrev pub generated_in : List Row → Option GeneratedKernel
generated_in rows = option_map (kernel_of rows) (kind_in rows)

-- what the command of this name with these matches asks of a kernel alone
abbrev pub kernel_command_named : Text × List Row → Option KernelCommand
kernel_command_named named =
    let budget = number_in (codes "budget") most_moves named.1 in
    if bytes_eq named.0 (codes "schedule") then Some (Schedule budget)
    else (if bytes_eq named.0 (codes "deps") then Some (Deps budget)
    else (if bytes_eq named.0 (codes "emit") then Some (Emit (number_in (codes "tile") usual_tile named.1) budget)
    else (if bytes_eq named.0 (codes "certify") then Some (Certify budget) else None)))

-- `run` with these matches; none where the value of `--sync` is neither `waves` nor `tiles`
abbrev pub run_named : List Row → Option Command
run_named rows = option_map (λ sync. Run (run_options_in sync rows)) (sync_in rows)

-- `gen` with these matches, by waves; none where its KIND is no kind
abbrev pub gen_named : List Row → Option Command
gen_named rows = option_map (λ generated. Gen generated (run_options_in Waves rows)) (generated_in rows)

-- the command of this name with these matches
abbrev pub command_named : Text × List Row → Option Command
command_named named =
    if bytes_eq named.0 (codes "run") then run_named named.1
    else (if bytes_eq named.0 (codes "gen") then gen_named named.1
    else (if bytes_eq named.0 (codes "check") then Some Check
    else option_map OfKernel (kernel_command_named named)))

-- the command that is met
abbrev pub command_met : Option (Text × List Row) → Option Command
command_met met = option_and_then command_named met

-- the stated command takes the words, the program's name first, the KIND in them is a kind, and the value of `--sync`
-- is `waves` or `tiles`
abbrev pub IsTaken : List Text → Type 0
IsTaken words = (fault_of tool words ≡ []) × (is_some (command_met (subcommand_of tool words)) ≡ true)

-- the command that words which are taken name
abbrev pub command_of : List Text → Command
command_of words = unwrap_or (command_met (subcommand_of tool words)) (Run (run_options_in Waves []))

-- the words are `run` with these options
abbrev pub IsRunCommand : RunOptions → List Text → Type 0
IsRunCommand options words = IsTaken words × (command_of words ≡ Run options)

-- the words are `schedule` with this budget
abbrev pub IsScheduleCommand : ℕ → List Text → Type 0
IsScheduleCommand budget words = IsTaken words × (command_of words ≡ OfKernel (Schedule budget))

-- the words are `deps` with this budget
abbrev pub IsDepsCommand : ℕ → List Text → Type 0
IsDepsCommand budget words = IsTaken words × (command_of words ≡ OfKernel (Deps budget))

-- the words are `emit` with this size of tiles and this budget
abbrev pub IsEmitCommand : ℕ → ℕ → List Text → Type 0
IsEmitCommand tile budget words = IsTaken words × (command_of words ≡ OfKernel (Emit tile budget))

-- the words are `certify` with this budget
abbrev pub IsCertifyCommand : ℕ → List Text → Type 0
IsCertifyCommand budget words = IsTaken words × (command_of words ≡ OfKernel (Certify budget))

-- the words are `check`
abbrev pub IsCheckCommand : List Text → Type 0
IsCheckCommand words = IsTaken words × (command_of words ≡ Check)

-- the words are `gen` with this kernel and these options
abbrev pub IsGenCommand : GeneratedKernel → RunOptions → List Text → Type 0
IsGenCommand generated options words = IsTaken words × (command_of words ≡ Gen generated options)

-- there are 1 to the most workers, and tiles have a size from 1 to the greatest
pub record AreSized (options : RunOptions) : Type 0 where
  pub workers_from : 1 ≤ options.workers
  pub workers_to : options.workers ≤ most_workers
  pub tile_from : 1 ≤ options.tile
  pub tile_to : options.tile ≤ most_tile

-- tiles have a size from 1 to the greatest
abbrev pub IsSized : KernelCommand → Type 0
IsSized (Emit tile budget) = (1 ≤ tile) × (tile ≤ most_tile)
IsSized other = ⊤

-- the numbers of a command lie in their ranges
abbrev pub HasSize : Command → Type 0
HasSize (Run options) = AreSized options
HasSize (OfKernel asked) = IsSized asked
HasSize Check = ⊤
HasSize (Gen generated options) = (1 ≤ generated.size) × (generated.size ≤ most_size) × AreSized options

-- how many moves each question of a command may make; `check`, which poses none, has the one where none is given
abbrev pub budget_of : Command → ℕ
budget_of (Run options) = options.budget
budget_of (OfKernel (Schedule budget)) = budget
budget_of (OfKernel (Deps budget)) = budget
budget_of (OfKernel (Emit tile budget)) = budget
budget_of (OfKernel (Certify budget)) = budget
budget_of Check = most_moves
budget_of (Gen generated options) = options.budget

-- the names of the commands
abbrev pub command_names : List Text
command_names =
    codes "run" ∷ codes "schedule" ∷ codes "deps" ∷ codes "emit" ∷ codes "certify" ∷ codes "gen" ∷ codes "check" ∷ []

-- the words name this command, with some matches
abbrev pub NamesCommand : Text → List Text → Type 0
NamesCommand name words = (rows : List Row) × (subcommand_of tool words ≡ Some (name, rows))

-- the words are `gen`, and their KIND is no kind
abbrev pub NamesNoKind : List Text → Type 0
NamesNoKind words =
    (rows : List Row) × (subcommand_of tool words ≡ Some (codes "gen", rows)) × (kind_in rows ≡ None)

-- the words are `run`, and the value of `--sync` in them is neither `waves` nor `tiles`
abbrev pub NamesNoSync : List Text → Type 0
NamesNoSync words =
    (rows : List Row) × (subcommand_of tool words ≡ Some (codes "run", rows)) × (sync_in rows ≡ None)
