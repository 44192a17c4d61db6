use Rattle.quast_trees.specs.Mapped.{node_run}
use Rattle.quast_trees.proofs.ListRuns.{EachSoFar}
use Rattle.quast_trees.proofs.quast.Quast.map.Given as goal

abbrev pub invariant-loop-node : goal.invariant-loop-node
invariant-loop-node l = EachSoFar (node_run l.forms) l.nodes l.node-index l.mapped.items
