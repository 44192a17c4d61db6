use Rattle.whole_numbers.proofs.Common.{◌≡◌, ◌≤◌, length, drop, [], ◌∷◌, Some, reverse}
use Rattle.quast_trees.specs.steps.Ways.{ways_from_last, ways_of}
use Rattle.quast_trees.proofs.quast.Quast.live_paths.Given as goal

abbrev pub invariant-loop-at : goal.invariant-loop-at
invariant-loop-at l =
    (l.at ≤ length l.nodes)
    × (ways_from_last (drop l.at l.nodes) (ways_of (Some [] ∷ []) [])
    ≡ ways_of (reverse l.waiting.items) (reverse l.found.items))

abbrev pub decreases-loop-at : goal.decreases-loop-at
decreases-loop-at l = l.at
