use Rattle.quast_trees.specs.Tree.{leaf}
use Rattle.contract_callers.proofs.quasts.bound_leaves_divide.Goals as goal

pub returns : goal.returns
returns c = λ form divisor q r l. c.binds_divide.ensures form divisor q r (leaf l)
