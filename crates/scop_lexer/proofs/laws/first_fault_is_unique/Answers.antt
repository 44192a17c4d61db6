use Rattle.scop_lexer.proofs.Splits.{one-fault}
use Rattle.scop_lexer.proofs.laws.first_fault_is_unique.Goals as goal

pub returns : goal.returns
returns c = one-fault
