use Rattle.scop_syntax.proofs.Conflicts.{last_conflicts, next_conflicts}
use Rattle.scop_syntax.proofs.execution_laws.writers_conflict.Goals as goal

pub returns-clause-last : goal.returns-clause-last
returns-clause-last c = last_conflicts

pub returns-clause-next : goal.returns-clause-next
returns-clause-next c = next_conflicts
