use Rattle.quast_trees.proofs.MappedTurns.{mapped_keeps, named_up}
use Rattle.quast_trees.proofs.laws.mapped_trees_keep_the_signs_of_binds.Goals as goal

pub returns-clause-mapped : goal.returns-clause-mapped
returns-clause-mapped c forms t u point run ups = (mapped_keeps forms t u run).ups point ups

pub returns-clause-named : goal.returns-clause-named
returns-clause-named c = named_up
