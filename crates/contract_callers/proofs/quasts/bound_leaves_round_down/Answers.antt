use Rattle.quast_trees.specs.Tree.{leaf}
use Rattle.contract_callers.proofs.quasts.bound_leaves_round_down.Goals as goal

pub returns : goal.returns
returns c = λ form divisor q l. c.binds_round_down.ensures form divisor q (leaf l)
