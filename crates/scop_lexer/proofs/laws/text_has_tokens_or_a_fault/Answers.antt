use Rattle.scop_lexer.proofs.Splits.{one-holds}
use Rattle.scop_lexer.proofs.laws.text_has_tokens_or_a_fault.Goals as goal

pub returns : goal.returns
returns c = one-holds
