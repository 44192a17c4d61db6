use Rattle.scop_syntax.proofs.Common.{[]}
use Rattle.loop_tree.specs.Tiling.{tiled}
use Rattle.run_callers.proofs.pairs.pairs_of_tiles_of_size_1.Goals as goal

pub returns-clause-edges : goal.returns-clause-edges
returns-clause-edges c = λ flow program ts statements list e is.
    c.edges_are_counted.ensures.edges flow program [] ts (tiled 1 statements) list e is

pub returns-clause-more : goal.returns-clause-more
returns-clause-more c = λ flow program ts statements list is.
    c.edges_are_counted.ensures.more flow program [] ts (tiled 1 statements) list is
