use Rattle.scop_lexer.proofs.Splits.{one-list}
use Rattle.scop_lexer.proofs.laws.tokens_are_unique.Goals as goal

pub returns : goal.returns
returns c = one-list
