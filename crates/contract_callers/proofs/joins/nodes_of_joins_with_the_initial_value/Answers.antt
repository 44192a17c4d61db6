use Rattle.quast_trees.specs.Tree.{initial}
use Rattle.contract_callers.proofs.joins.nodes_of_joins_with_the_initial_value.Goals as goal

pub returns-clause-count : goal.returns-clause-count
returns-clause-count c = λ way n tree. c.joins_are_counted.ensures.count way n initial tree

pub returns-clause-nodes : goal.returns-clause-nodes
returns-clause-nodes c = λ tree. c.joins_are_counted.ensures.nodes initial tree

pub returns-clause-capped : goal.returns-clause-capped
returns-clause-capped c = c.joins_are_counted.ensures.capped 10

pub returns-clause-forms : goal.returns-clause-forms
returns-clause-forms c = λ way n tree. c.joins_are_counted.ensures.forms way n initial tree tt
