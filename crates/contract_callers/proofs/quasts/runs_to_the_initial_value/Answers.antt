use Rattle.scop_syntax.proofs.Common.{sym}
use Rattle.quast_trees.specs.Leaf.{initial}
use Rattle.contract_callers.proofs.quasts.runs_to_the_initial_value.Goals as goal

pub returns : goal.returns
returns c = λ tree point is. sym (c.runs_are_exact.ensures tree point initial is)
