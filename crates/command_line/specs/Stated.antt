-- The stated command: its commands, with their options and arguments, of which `clap` reads the words.
use Rattle.std.specs.Prelude.{◌≡◌, ℕ, true, false, codes, Some}
use Rattle.clap.specs.Words.{App, Rule, Text, app_of, new_app, new_rule, rule_of, with_rule, with_subcommand}
use Rattle.clap.specs.Simple.{on_top}
use Rattle.clap.specs.declared.builder.action.ArgAction.TheVariants.{Set, SetTrue}
use Rattle.clap.specs.declared.builder.arg.Arg.{Arg}
use Rattle.clap.specs.declared.builder.command.Command as clap_command
use Rattle.clap.specs.declared.builder.command.Command.TheViews.{out-Command}
use Rattle.clap.specs.declared.builder.value_parser.ValueParser.TheVariants as parser

-- the most workers
abbrev pub most_workers : ℕ
most_workers = 64

-- the greatest size of tiles
abbrev pub most_tile : ℕ
most_tile = 1024

-- the greatest budget, and the one where none is given
abbrev pub most_moves : ℕ
most_moves = 20000

-- the greatest size of a generated kernel
abbrev pub most_size : ℕ
most_size = 512

-- `--NAME N`, a number from 1 to `most`
abbrev pub number_option : Text → ℕ → Rule
number_option name most =
    record (new_rule name) { long = Some name; action = Some Set; parser = Some (parser.Unsigned 1 most) }

-- `--NAME`
abbrev pub flag : Text → Rule
flag name = record (new_rule name) { long = Some name; action = Some SetTrue }

-- `--sync TEXT`; of its value, the stated command takes any text
abbrev pub sync_option : Rule
sync_option = record (new_rule (codes "sync")) { long = Some (codes "sync"); action = Some Set }

-- an argument that has to be given, at its place among those without a name
abbrev pub wanted : Text → Rule
wanted name = record (new_rule name) { action = Some Set; required = true }

-- the same, a number from `least` to `most`
abbrev pub wanted_number : Text → ℕ → ℕ → Rule
wanted_number name least most = record (wanted name) { parser = Some (parser.Unsigned least most) }

-- a command with `[--workers K] [--tile T] [--budget B]`
abbrev pub with_run_options : App → App
with_run_options a =
    with_rule
    (with_rule (with_rule a (number_option (codes "workers") most_workers)) (number_option (codes "tile") most_tile))
    (number_option (codes "budget") most_moves)

-- `run [--workers K] [--tile T] [--budget B] [--report] [--expand] [--sync TEXT] [--reduce]`
abbrev pub run_tool : App
run_tool =
    with_rule
    (with_rule
    (with_rule (with_rule (with_run_options (new_app (codes "run"))) (flag (codes "report"))) (flag (codes "expand")))
    sync_option)
    (flag (codes "reduce"))

-- `gen KIND SEED SIZE`; of its kind, the stated command takes any text
abbrev pub gen_arguments : App
gen_arguments =
    with_rule
    (with_rule (with_rule (new_app (codes "gen")) (wanted (codes "kind")))
    (wanted_number (codes "seed") 0 18446744073709551615))
    (wanted_number (codes "size") 1 most_size)

-- `gen KIND SEED SIZE [--workers K] [--tile T] [--budget B]`
abbrev pub gen_tool : App
gen_tool = with_run_options gen_arguments

-- a command of this name with `[--budget B]`
abbrev pub budget_tool : Text → App
budget_tool name = with_rule (new_app name) (number_option (codes "budget") most_moves)

-- `emit [--tile T] [--budget B]`
abbrev pub emit_tool : App
emit_tool = with_rule (budget_tool (codes "emit")) (number_option (codes "tile") most_tile)

-- `check`
abbrev pub check_tool : App
check_tool = new_app (codes "check")

-- `polypar`, which wants one of its commands; `help` is none of them
abbrev pub bare_tool : App
bare_tool =
    on_top (λ top. record top { subcommand_required = true; disable_help_subcommand = true })
    (new_app (codes "polypar"))

-- a command with `schedule [--budget B]`, `deps [--budget B]`, `emit [--tile T] [--budget B]` and
-- `certify [--budget B]`
abbrev pub with_kernel_tools : App → App
with_kernel_tools a =
    with_subcommand
    (with_subcommand
    (with_subcommand (with_subcommand a (budget_tool (codes "schedule")).top) (budget_tool (codes "deps")).top)
    emit_tool.top)
    (budget_tool (codes "certify")).top

-- the stated command: `polypar` with `run`, those that ask of a kernel alone, `gen` and `check`
abbrev pub tool : App
tool =
    with_subcommand
    (with_subcommand (with_kernel_tools (with_subcommand bare_tool run_tool.top)) gen_tool.top)
    check_tool.top

-- an argument of the code is this one, and is its command's own
pub record IsArgument (r : Rule) (arg : Arg) : Type 0 where
  pub rule : rule_of arg ≡ r
  pub own : arg.global ≡ false

-- a command of the code is this one, and has no argument that all its commands share
pub record IsCommand (a : App) (command : clap_command.Command) : Type 0 where
  pub app : app_of command ≡ a
  pub plain : (out-Command command).has_globals ≡ false
