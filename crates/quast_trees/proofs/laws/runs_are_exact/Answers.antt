use Rattle.quast_trees.proofs.Exact.{value_run-exact}
use Rattle.quast_trees.proofs.laws.runs_are_exact.Goals as goal

pub returns : goal.returns
returns c = value_run-exact
