use Rattle.quast_trees.proofs.MappedTurns.{mapped_keeps, named_tells}
use Rattle.quast_trees.proofs.laws.mapped_trees_can_be_told.Goals as goal

pub returns-clause-mapped : goal.returns-clause-mapped
returns-clause-mapped c forms t u run tells = (mapped_keeps forms t u run).tells tells

pub returns-clause-named : goal.returns-clause-named
returns-clause-named c = named_tells
