use Rattle.loop_tree.proofs.Marks.{marks_all, shows_all}
use Rattle.loop_tree.proofs.tree_laws.marks_are_the_parallel_loops.Goals as goal

pub returns-clause-parallel : goal.returns-clause-parallel
returns-clause-parallel c = marks_all

pub returns-clause-turns : goal.returns-clause-turns
returns-clause-turns c = shows_all
