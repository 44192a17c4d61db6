use Rattle.scop_syntax.proofs.Common.{length, program_of}
use Rattle.loop_tree.specs.SpotView.{IsSpotOf, to_come}
use Rattle.loop_tree.specs.View.{trees_in}
use Rattle.expansions.specs.steps.Passing.{IsOnItsWay}
use Rattle.expansions.proofs.sourcing.pass_rest.Given as goal

abbrev pub invariant-loop-instance : goal.invariant-loop-instance
invariant-loop-instance l = record {
  spot : IsSpotOf (trees_in l.source) l.params l.spot;
  way : IsOnItsWay (program_of l.kernel) l.params l.most (to_come (trees_in l.source) l.params l.spot) l.pass;
}

abbrev pub decreases-loop-instance : goal.decreases-loop-instance
decreases-loop-instance l = length (to_come (trees_in l.source) l.params l.spot)
