use Rattle.quast_trees.proofs.WrittenNodes.{read_written, length-written}
use Rattle.quast_trees.proofs.laws.nodes_are_read_as_their_tree.Goals as goal

pub returns-clause-tree : goal.returns-clause-tree
returns-clause-tree c = read_written

pub returns-clause-count : goal.returns-clause-count
returns-clause-count c = length-written
