use Rattle.scop_syntax.proofs.Common.{◌≡◌, ◌++◌, List, length, program_of, Instance}
use Rattle.loop_tree.specs.Plans.{walked}
use Rattle.loop_tree.specs.SpotView.{IsSpotOf, to_come}
use Rattle.loop_tree.specs.View.{trees_in}
use Rattle.loop_tree.specs.Walk.{visits}
use Rattle.expansions.specs.Expansions.{ArePlacesIn}
use Rattle.expansions.specs.steps.Listing.{AreListed}
use Rattle.expansions.proofs.placing.place_rest.Given as goal

abbrev pub invariant-loop-instance : goal.invariant-loop-instance
invariant-loop-instance l = record {
  spot : IsSpotOf (trees_in l.tree) l.params l.spot;
  lists : AreListed (walked (program_of l.kernel) l.params) l.lists.items;
  placed : (done : List Instance)
      × (done ++ to_come (trees_in l.tree) l.params l.spot ≡ visits (trees_in l.tree) l.params)
      × ArePlacesIn (walked (program_of l.kernel) l.params) done l.places.items;
}

abbrev pub decreases-loop-instance : goal.decreases-loop-instance
decreases-loop-instance l = length (to_come (trees_in l.tree) l.params l.spot)
