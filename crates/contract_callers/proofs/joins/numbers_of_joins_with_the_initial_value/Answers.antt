use Rattle.quast_trees.specs.Tree.{initial}
use Rattle.contract_callers.proofs.joins.numbers_of_joins_with_the_initial_value.Goals as goal

pub returns : goal.returns
returns c = λ way n tree within. c.joins_can_be_told.ensures way n initial tree tt within tt
