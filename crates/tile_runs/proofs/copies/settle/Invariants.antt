use Rattle.scop_syntax.proofs.Common.{◌≡◌, ◌≤◌, drop, length}
use Rattle.loop_tree.specs.SpotView.{IsSpotOf, to_come}
use Rattle.loop_tree.specs.View.{trees_in}
use Rattle.tile_core.specs.Plans.{extents_in, places_in, walk_in}
use Rattle.tile_runs.proofs.SettledCells.{IsSettled}
use Rattle.tile_runs.proofs.copies.settle.Given as goal

abbrev pub invariant-loop-instance : goal.invariant-loop-instance
invariant-loop-instance l = record {
  spot : IsSpotOf (trees_in l.source) l.plan.params.now l.spot;
  left : to_come (trees_in l.source) l.plan.params.now l.spot ≡ drop l.place (places_in l.plan);
  within : l.place ≤ length (walk_in l.plan);
  settled : IsSettled (extents_in l.plan) (walk_in l.plan) l.fn.row.items l.place l.row.items;
}

abbrev pub decreases-loop-instance : goal.decreases-loop-instance
decreases-loop-instance l = length (to_come (trees_in l.source) l.plan.params.now l.spot)
