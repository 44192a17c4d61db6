use Rattle.scop_syntax.proofs.Common.{◌≡◌, ◌≤◌, drop, length, program_of}
use Rattle.loop_tree.specs.Plans.{walked}
use Rattle.loop_tree.specs.SpotView.{IsSpotOf, to_come}
use Rattle.loop_tree.specs.View.{trees_in}
use Rattle.expansions.specs.steps.Listing.{AreListed}
use Rattle.expansions.proofs.placing.lists_of.Given as goal

abbrev pub invariant-loop-instance : goal.invariant-loop-instance
invariant-loop-instance l = record {
  spot : IsSpotOf (trees_in l.source) l.params l.spot;
  left : to_come (trees_in l.source) l.params l.spot ≡ drop l.place (walked (program_of l.kernel) l.params);
  within : l.place ≤ length (walked (program_of l.kernel) l.params);
  lists : AreListed (walked (program_of l.kernel) l.params) l.lists.items;
}

abbrev pub decreases-loop-instance : goal.decreases-loop-instance
decreases-loop-instance l = length (to_come (trees_in l.source) l.params l.spot)
