use Rattle.quast_trees.specs.Tree.{initial}
use Rattle.contract_callers.proofs.joins.constants_of_tests_are_small.Goals as goal

pub returns-clause-test : goal.returns-clause-test
returns-clause-test c = λ way bound f g sign first second.
    (c.tests_are_small.ensures.test way bound f g sign first second).1

pub returns-clause-leaves : goal.returns-clause-leaves
returns-clause-leaves c = λ way bound n tree sign. c.tests_are_small.ensures.leaves way bound n initial tree sign tt
