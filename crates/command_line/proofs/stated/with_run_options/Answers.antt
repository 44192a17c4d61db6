-- Each option is added to the command that stands.
use Rattle.scop_syntax.proofs.Common.{codes}
use Rattle.clap.specs.Words.{with_rule}
use Rattle.command_line.specs.Stated.{most_moves, most_tile, most_workers, number_option}
use Rattle.command_line.proofs.stated.with_run_options.Goals as goal

pub returns : goal.returns
returns c = λ a made.
    let workers = number_option (codes "workers") most_workers in
    let tile = number_option (codes "tile") most_tile in
    let budget = number_option (codes "budget") most_moves in
    let with_workers = c.with_argument-with_workers.ensures a workers made c.number_option.ensures in
    let with_tile = c.with_argument-with_tile.ensures (with_rule a workers) tile with_workers
    c.number_option-2.ensures in
    c.with_argument.ensures (with_rule (with_rule a workers) tile) budget with_tile c.number_option-3.ensures
