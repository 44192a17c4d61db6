use Rattle.scop_syntax.proofs.Common.{codes}
use Rattle.command_line.specs.Stated.{budget_tool, most_tile, number_option}
use Rattle.command_line.proofs.stated.emit_command.Goals as goal

pub returns : goal.returns
returns c =
    c.with_argument.ensures (budget_tool (codes "emit")) (number_option (codes "tile") most_tile)
    c.budget_command.ensures c.number_option.ensures
