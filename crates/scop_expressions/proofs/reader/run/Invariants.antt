use Rattle.scop_expressions.specs.declared.reader.TheConstants.{MOST_BRACKETS, MOST_OPERATORS}
use Rattle.scop_expressions.proofs.MachineLoop.{Runs}
use Rattle.scop_expressions.proofs.reader.run.Given as goal

abbrev pub invariant-loop-token : goal.invariant-loop-token
invariant-loop-token l = Runs MOST_BRACKETS MOST_OPERATORS l.tokens l.token-index l.reader
