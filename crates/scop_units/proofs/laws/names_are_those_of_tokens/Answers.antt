use Rattle.scop_units.proofs.SpelledNames.{header_named}
use Rattle.scop_units.proofs.laws.names_are_those_of_tokens.Goals as goal

pub returns : goal.returns
returns c = header_named
