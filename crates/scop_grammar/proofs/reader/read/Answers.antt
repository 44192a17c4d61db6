use Rattle.std.proofs.Common.{arith}
use Rattle.scop_expressions.specs.declared.reader.TheConstants.{MOST_BRACKETS, MOST_OPERATORS}
use Rattle.scop_grammar.proofs.MachineLoop.{tells_text, tells_stop}
use Rattle.scop_grammar.proofs.reader.read.Goals as goal

pub returns-clause-text : goal.returns-clause-text
returns-clause-text c =
    tells_text MOST_BRACKETS MOST_OPERATORS c.args.tokens.now c.run.result (omega arith) c.run.ensures

pub returns-clause-stop : goal.returns-clause-stop
returns-clause-stop c =
    tells_stop MOST_BRACKETS MOST_OPERATORS c.args.tokens.now c.run.result (omega arith) c.run.ensures
