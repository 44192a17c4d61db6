use Rattle.quast_trees.specs.Tree.{initial}
use Rattle.contract_callers.proofs.quasts.scaled_tests_with_an_initial_side.Goals as goal

pub returns : goal.returns
returns c = λ test k tree. c.tests_may_be_scaled.ensures test k initial tree
