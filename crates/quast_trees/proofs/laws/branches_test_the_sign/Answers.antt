use Rattle.whole_numbers.proofs.Common.{value_of}
use Rattle.quast_trees.specs.Value.{value}
use Rattle.quast_trees.proofs.SignChoices.{by_sign_first, by_sign_second}
use Rattle.quast_trees.proofs.laws.branches_test_the_sign.Goals as goal

pub returns-clause-first : goal.returns-clause-first
returns-clause-first c = λ f a b point h. by_sign_first (value_of f point) (value a point) (value b point) h

pub returns-clause-second : goal.returns-clause-second
returns-clause-second c = λ f a b point h. by_sign_second (value_of f point) (value a point) (value b point) h
