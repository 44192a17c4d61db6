use Rattle.scop_syntax.proofs.Common.{[]}
use Rattle.contract_callers.proofs.joins.joins_on_an_empty_stack.Goals as goal

pub returns-clause-run : goal.returns-clause-run
returns-clause-run c = λ way n first second. c.joins_are_built.ensures.run way n 0 first second []

pub returns-clause-nodes : goal.returns-clause-nodes
returns-clause-nodes c = c.joins_are_built.ensures.nodes 0

pub returns-clause-depths : goal.returns-clause-depths
returns-clause-depths c = c.joins_are_built.ensures.depths 0

pub returns-clause-found : goal.returns-clause-found
returns-clause-found c = λ tree. c.joins_are_built.ensures.found tree 0 []
