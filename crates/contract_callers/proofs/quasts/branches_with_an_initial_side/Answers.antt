use Rattle.quast_trees.specs.Tree.{initial}
use Rattle.contract_callers.proofs.quasts.branches_with_an_initial_side.Goals as goal

pub returns-clause-first : goal.returns-clause-first
returns-clause-first c = λ test tree. c.branches_test_the_sign.ensures.first test initial tree

pub returns-clause-second : goal.returns-clause-second
returns-clause-second c = λ test tree. c.branches_test_the_sign.ensures.second test tree initial
