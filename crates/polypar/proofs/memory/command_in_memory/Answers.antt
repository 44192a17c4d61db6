-- The clause of the call, over ports that fail at no call.
use Rattle.scop_syntax.proofs.Common.{◌∙◌}
use Rattle.polypar.proofs.MemoryLemmas.{stays_in_memory, decided_in_memory}
use Rattle.polypar.proofs.memory.command_in_memory.Goals as goal

pub returns-clause-whole : goal.returns-clause-whole
returns-clause-whole c = c.plain_command.ensures.read_whole

pub returns-clause-decided : goal.returns-clause-decided
returns-clause-decided c = λ verdict deserves room line.
    decided_in_memory _ _ verdict c.args.source.now c.plain_command.new.source c.args.out.now c.plain_command.new.out
    c.args.err.now c.plain_command.new.err
    c.plain_command.ensures c.requires deserves room line

pub returns-clause-calm : goal.returns-clause-calm
returns-clause-calm c = λ room line.
    let stay = stays_in_memory _ _ c.args.source.now c.plain_command.new.source c.args.out.now c.plain_command.new.out
    c.args.err.now c.plain_command.new.err
    c.plain_command.ensures c.requires room line in (
      stay.of_source ∙ c.requires.source_faults,
      stay.of_out ∙ c.requires.out_faults,
      stay.of_err
          ∙ c.requires.err_faults,
    )
