use Rattle.quast_trees.specs.Tree.{branch}
use Rattle.contract_callers.proofs.quasts.nodes_leave_their_tree.Goals as goal

pub returns-clause-tree : goal.returns-clause-tree
returns-clause-tree c = c.nodes_are_read_as_their_tree.ensures.tree

pub returns-clause-count : goal.returns-clause-count
returns-clause-count c = λ test first second. c.nodes_are_read_as_their_tree.ensures.count (branch test first second)
