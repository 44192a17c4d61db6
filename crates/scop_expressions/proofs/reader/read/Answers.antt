use Rattle.scop_expressions.specs.declared.reader.TheConstants.{MOST_BRACKETS, MOST_OPERATORS}
use Rattle.scop_expressions.proofs.ReaderAnswers.{tells_expression, tells_stop}
use Rattle.scop_expressions.proofs.reader.read.Goals as goal

pub returns-clause-expression : goal.returns-clause-expression
returns-clause-expression c =
    tells_expression MOST_BRACKETS MOST_OPERATORS c.args.tokens.now c.run.result c.run.ensures

pub returns-clause-stop : goal.returns-clause-stop
returns-clause-stop c = tells_stop MOST_BRACKETS MOST_OPERATORS c.args.tokens.now c.run.result c.run.ensures
