use Rattle.scop_syntax.proofs.Common.{arith}
use Rattle.contract_callers.proofs.walks.next_writers_stand_behind.Goals as goal

pub returns-clause-next : goal.returns-clause-next
returns-clause-next c = λ visits j cell k next.
    (c.next_writers_are_least_places.ensures.next visits j cell k next).behind

pub returns-clause-none : goal.returns-clause-none
returns-clause-none c = λ visits cell none.
    c.next_writers_are_least_places.ensures.none visits 0 cell none 1 (omega arith)
