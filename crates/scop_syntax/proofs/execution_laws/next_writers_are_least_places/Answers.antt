use Rattle.scop_syntax.proofs.Writers.{next_is}
use Rattle.scop_syntax.proofs.execution_laws.next_writers_are_least_places.Goals as goal

pub returns-clause-next : goal.returns-clause-next
returns-clause-next c = next_is
