use Rattle.quast_trees.specs.Tree.{bind, leaf}
use Rattle.contract_callers.proofs.quasts.signs_of_bound_leaves.Goals as goal

pub returns-clause-mapped : goal.returns-clause-mapped
returns-clause-mapped c = λ forms form divisor l. c.mapped_trees_keep_the_signs_of_binds.ensures.mapped forms (bind form divisor (leaf l))

pub returns-clause-named : goal.returns-clause-named
returns-clause-named c = λ s form divisor l. c.mapped_trees_keep_the_signs_of_binds.ensures.named s (bind form divisor (leaf l))
