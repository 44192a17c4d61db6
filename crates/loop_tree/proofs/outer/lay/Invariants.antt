use Rattle.scop_syntax.proofs.Common.{◌≡◌, ◌≤◌, ◌++◌, length, drop}
use Rattle.loop_tree.specs.steps.Chain.{values_in}
use Rattle.loop_tree.proofs.outer.lay.Given as goal

abbrev pub invariant-loop-at : goal.invariant-loop-at
invariant-loop-at l =
    (l.start ≤ length l.row) × (values_in l.at ++ drop l.start l.row ≡ values_in l.outer)

abbrev pub decreases-loop-at : goal.decreases-loop-at
decreases-loop-at l = length (values_in l.at)
