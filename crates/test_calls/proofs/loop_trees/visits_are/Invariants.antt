use Rattle.loop_tree.specs.SpotView.{IsSpotOf}
use Rattle.loop_tree.specs.View.{trees_in}
use Rattle.test_calls.proofs.loop_trees.visits_are.Given as goal

abbrev pub invariant-loop-turns : goal.invariant-loop-turns
invariant-loop-turns l = IsSpotOf (trees_in l.tree) l.params l.spot
