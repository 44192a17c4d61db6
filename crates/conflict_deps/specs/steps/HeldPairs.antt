-- The two accesses of a pair that the code holds; only for the code's own steps.
use Rattle.std.specs.Prelude.{ℕ}
use Rattle.conflict_deps.specs.Conflicts.{Side, pair_size}
use Rattle.conflict_deps.specs.steps.View.{side_of}
use Rattle.conflict_deps.specs.declared.pair.Pair.{Pair}

abbrev pub source_of : Pair → Side
source_of pair = side_of pair.source.now

abbrev pub target_of : Pair → Side
target_of pair = side_of pair.target.now

-- how many variables its systems have
abbrev pub width_of : Pair → ℕ
width_of pair = pair_size pair.parameters (source_of pair) (target_of pair)
