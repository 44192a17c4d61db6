use Rattle.scop_syntax.proofs.Common.{All, take}
use Rattle.loop_tree.specs.TilingView.{tiling_of}
use Rattle.tile_list.specs.steps.Stretching.{AllHaveKey}
use Rattle.tile_list.proofs.keys.Key.is_of_strands.Given as goal

abbrev pub invariant-loop-strand : goal.invariant-loop-strand
invariant-loop-strand l = All (AllHaveKey (tiling_of l.tiling) l.self) (take l.strand-index l.strands)
