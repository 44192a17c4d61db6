use Rattle.quast_joins.proofs.Common.{◌≡◌, ◌≤◌, length, drop, [], ◌∷◌, reverse, depths_of, from_last}
use Rattle.quast_joins.proofs.binds.binds_round.Given as goal

abbrev pub invariant-loop-at : goal.invariant-loop-at
invariant-loop-at l =
    (l.at ≤ length l.nodes)
    × (from_last (drop l.at l.nodes) (depths_of (0 ∷ []) [])
    ≡ depths_of (reverse l.stack.items) (reverse l.found.items))

abbrev pub decreases-loop-at : goal.decreases-loop-at
decreases-loop-at l = l.at
