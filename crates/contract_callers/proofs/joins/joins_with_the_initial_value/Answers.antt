use Rattle.quast_trees.specs.Tree.{initial}
use Rattle.contract_callers.proofs.joins.joins_with_the_initial_value.Goals as goal

pub returns-clause-value : goal.returns-clause-value
returns-clause-value c = λ way n tree point size. c.joins_choose.ensures.value way n initial tree point size tt

pub returns-clause-speaks : goal.returns-clause-speaks
returns-clause-speaks c = λ way n tree. c.joins_choose.ensures.speaks way n initial tree tt
