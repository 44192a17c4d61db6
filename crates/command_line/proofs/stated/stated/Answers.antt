-- Each command is added to the one that stands.
use Rattle.clap.specs.Words.{App, with_subcommand}
use Rattle.command_line.specs.Stated.{bare_tool, check_tool, gen_tool, run_tool, with_kernel_tools}
use Rattle.command_line.proofs.stated.stated.Goals as goal

pub returns : goal.returns
returns c =
    let a : App = with_subcommand bare_tool run_tool.top in
    let of_kernels : App = with_kernel_tools a in
    let with_run = c.with_command-with_run.ensures bare_tool run_tool c.bare.ensures c.run_command.ensures in
    let with_gen = c.with_command-with_gen.ensures of_kernels gen_tool
    (c.with_kernel_commands-of_kernels.ensures a with_run) c.gen_command.ensures in
    c.with_command.ensures (with_subcommand of_kernels gen_tool.top) check_tool with_gen c.check_command.ensures
