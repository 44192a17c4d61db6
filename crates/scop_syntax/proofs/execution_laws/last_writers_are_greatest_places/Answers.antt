use Rattle.scop_syntax.proofs.Writers.{last_is}
use Rattle.scop_syntax.proofs.execution_laws.last_writers_are_greatest_places.Goals as goal

pub returns-clause-last : goal.returns-clause-last
returns-clause-last c = last_is
