use Rattle.lexmin_runs.proofs.SingleLeaf.{lexmin-alone}
use Rattle.lexmin_runs.proofs.laws.trees_without_parameters_are_leaves.Goals as goal

pub returns : goal.returns
returns c = lexmin-alone
