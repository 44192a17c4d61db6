use Rattle.scop_syntax.proofs.Common.{◌≡◌, length}
use Rattle.loop_tree.specs.Spot.{deep_all}
use Rattle.loop_tree.specs.SpotView.{IsSpotOf, to_come}
use Rattle.loop_tree.specs.TilingView.{tiling_of}
use Rattle.loop_tree.specs.View.{trees_in}
use Rattle.tile_list.specs.steps.Cutting.{IsCutTo}
use Rattle.tile_list.proofs.cutting.take_all.Given as goal

abbrev pub invariant-loop-instance : goal.invariant-loop-instance
invariant-loop-instance l = record {
  spot : IsSpotOf (trees_in l.tree) l.params l.spot;
  cut : IsCutTo (trees_in l.tree) l.params (tiling_of l.tiling) (to_come (trees_in l.tree) l.params l.spot) l.cut;
  front : length l.front.steps.items ≡ deep_all (trees_in l.tree);
  room : length l.scout.spot.marks.items ≡ deep_all (trees_in l.tree);
}

abbrev pub decreases-loop-instance : goal.decreases-loop-instance
decreases-loop-instance l = length (to_come (trees_in l.tree) l.params l.spot)
