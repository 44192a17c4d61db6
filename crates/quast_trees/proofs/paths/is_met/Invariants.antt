use Rattle.whole_numbers.proofs.Common.{◌≡◌, drop, false}
use Rattle.quast_trees.specs.steps.Ways.{met}
use Rattle.quast_trees.specs.PathView.{turn_held, turns_held}
use Rattle.quast_trees.proofs.paths.is_met.Given as goal

abbrev pub invariant-loop-passed : goal.invariant-loop-passed
invariant-loop-passed l =
    met (turn_held l.turn) l.found (turns_held (drop l.passed-index l.turns))
    ≡ met (turn_held l.turn) false (turns_held l.turns)
