use Rattle.scop_syntax.proofs.Common.{[], refl, walk_of}
use Rattle.scop_syntax.specs.Examples.{rising}
use Rattle.contract_callers.proofs.walks.writers_of_a_rising_loop.Goals as goal

pub returns-clause-last : goal.returns-clause-last
returns-clause-last c = c.writers_conflict.ensures.last (walk_of rising []) 1 1 0 refl

pub returns-clause-next : goal.returns-clause-next
returns-clause-next c = λ visits a k next. c.writers_conflict.ensures.next visits 0 a k next
