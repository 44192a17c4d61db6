use Rattle.quast_trees.specs.Postfix.{tree_of}
use Rattle.quast_trees.specs.Value.{value_run}
use Rattle.quast_trees.proofs.Descents.{Standing}
use Rattle.quast_trees.proofs.quast.Quast.value_at.Given as goal

abbrev pub invariant-loop-at : goal.invariant-loop-at
invariant-loop-at l = Standing l.nodes l.at l.values.items (value_run (tree_of l.self) l.point)

abbrev pub decreases-loop-at : goal.decreases-loop-at
decreases-loop-at l = l.at
