-- Each command is added to the one that stands.
use Rattle.scop_syntax.proofs.Common.{codes}
use Rattle.clap.specs.Words.{App, with_subcommand}
use Rattle.command_line.specs.Stated.{budget_tool, emit_tool}
use Rattle.command_line.proofs.stated.with_kernel_commands.Goals as goal

pub returns : goal.returns
returns c = λ a made.
    let schedule = budget_tool (codes "schedule") in
    let deps = budget_tool (codes "deps") in
    let certify = budget_tool (codes "certify") in
    let two : App = with_subcommand (with_subcommand a schedule.top) deps.top in
    let with_schedule = c.with_command-with_schedule.ensures a schedule made c.budget_command.ensures in
    let with_deps = c.with_command-with_deps.ensures (with_subcommand a schedule.top) deps with_schedule
    c.budget_command-2.ensures in
    let with_emit = c.with_command-with_emit.ensures two emit_tool with_deps c.emit_command.ensures in
    c.with_command.ensures (with_subcommand two emit_tool.top) certify with_emit c.budget_command-3.ensures
