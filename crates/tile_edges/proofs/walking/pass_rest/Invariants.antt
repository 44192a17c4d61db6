use Rattle.scop_syntax.proofs.Common.{length, program_of}
use Rattle.loop_tree.specs.SpotView.{to_come}
use Rattle.loop_tree.specs.TilingView.{tiling_of}
use Rattle.loop_tree.specs.View.{trees_in}
use Rattle.tile_edges.specs.steps.Ahead.{IsPassing}
use Rattle.tile_edges.proofs.walking.pass_rest.Given as goal

abbrev pub invariant-loop-instance : goal.invariant-loop-instance
invariant-loop-instance l =
    IsPassing l.flow (program_of l.kernel) l.params (trees_in l.source) (tiling_of l.tiling) l.list l.table l.spot
    l.pass

abbrev pub decreases-loop-instance : goal.decreases-loop-instance
decreases-loop-instance l = length (to_come (trees_in l.source) l.params l.spot)
