use Rattle.scop_lexer.proofs.NameLemmas.{name_at}
use Rattle.scop_lexer.proofs.laws.names_stand_by_themselves.Goals as goal

pub returns : goal.returns
returns c = name_at
