use Rattle.command_line.specs.Stated.{gen_arguments}
use Rattle.command_line.proofs.stated.gen_command.Goals as goal

pub returns : goal.returns
returns c = c.with_run_options.ensures gen_arguments c.gen_arguments.ensures
