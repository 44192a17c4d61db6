use Rattle.scop_lexer.proofs.Splits.{no-fault}
use Rattle.scop_lexer.proofs.laws.tokens_exclude_a_fault.Goals as goal

pub returns : goal.returns
returns c = no-fault
