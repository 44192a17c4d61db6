use Rattle.scop_syntax.proofs.Common.{◌≡◌, ◌+◌, ◌≤◌, length}
use Rattle.loop_tree.specs.SpotView.{IsSpotOf, to_come}
use Rattle.loop_tree.specs.View.{trees_in}
use Rattle.expansions.proofs.counting.are_few.Given as goal

abbrev pub invariant-loop-count : goal.invariant-loop-count
invariant-loop-count l = record {
  spot : IsSpotOf (trees_in l.source) l.params l.spot;
  counted : l.count + length (to_come (trees_in l.source) l.params l.spot)
      ≡ length (to_come (trees_in l.source) l.params l.fn.spot);
  few : l.count ≤ 4194304;
}

abbrev pub decreases-loop-count : goal.decreases-loop-count
decreases-loop-count l = length (to_come (trees_in l.source) l.params l.spot)
