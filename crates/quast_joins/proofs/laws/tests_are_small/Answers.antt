use Rattle.quast_joins.proofs.Sizes.{test_within, join_within}
use Rattle.quast_joins.proofs.laws.tests_are_small.Goals as goal

pub returns-clause-test : goal.returns-clause-test
returns-clause-test c = test_within

pub returns-clause-leaves : goal.returns-clause-leaves
returns-clause-leaves c = join_within
