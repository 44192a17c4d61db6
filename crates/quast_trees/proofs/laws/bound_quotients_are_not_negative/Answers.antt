use Rattle.whole_numbers.proofs.Common.{All-contains}
use Rattle.quast_trees.specs.Paths.{leaf_paths}
use Rattle.quast_trees.proofs.LeafPaths.{Rises, quotients_up}
use Rattle.quast_trees.proofs.laws.bound_quotients_are_not_negative.Goals as goal

pub returns : goal.returns
returns c t n point qs p speaks among goes ups =
    All-contains (Rises point qs) (leaf_paths t) p (quotients_up t n point qs speaks ups) among goes
