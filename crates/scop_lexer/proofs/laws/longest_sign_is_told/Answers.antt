use Rattle.scop_lexer.proofs.SignLemmas.{longest}
use Rattle.scop_lexer.proofs.laws.longest_sign_is_told.Goals as goal

pub returns : goal.returns
returns c = longest
