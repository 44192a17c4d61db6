use Rattle.quast_trees.specs.Tree.{initial}
use Rattle.contract_callers.proofs.joins.signs_of_joins_with_the_initial_value.Goals as goal

pub returns : goal.returns
returns c = λ way n tree point size. c.joins_keep_the_signs_of_binds.ensures way n initial tree point size tt tt
