use Rattle.tile_edges.proofs.CountedEdges.{counted, counted_more}
use Rattle.tile_edges.proofs.laws.edges_are_counted.Goals as goal

pub returns-clause-edges : goal.returns-clause-edges
returns-clause-edges c flow program params ts tiling list e is =
    counted flow program params ts tiling list is c.pairs_make_plans.ensures.once e

pub returns-clause-more : goal.returns-clause-more
returns-clause-more c = counted_more
