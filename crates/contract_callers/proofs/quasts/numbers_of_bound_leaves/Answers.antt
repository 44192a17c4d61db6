use Rattle.quast_trees.specs.Tree.{bind, leaf}
use Rattle.contract_callers.proofs.quasts.numbers_of_bound_leaves.Goals as goal

pub returns-clause-mapped : goal.returns-clause-mapped
returns-clause-mapped c = λ forms form divisor l. c.mapped_trees_can_be_told.ensures.mapped forms (bind form divisor (leaf l))

pub returns-clause-named : goal.returns-clause-named
returns-clause-named c = λ s form divisor l. c.mapped_trees_can_be_told.ensures.named s (bind form divisor (leaf l))
