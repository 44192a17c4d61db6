use Rattle.dataflow.proofs.Common.{◌≡◌, ◌+◌, ◌≤◌, drop, binds_in, turns_held}
use Rattle.dataflow.proofs.leaf_rows.binds_in.Given as goal

abbrev pub invariant-loop-turn : goal.invariant-loop-turn
invariant-loop-turn l =
    (l.count + binds_in (turns_held (drop l.turn-index l.turns)) ≡ binds_in (turns_held l.turns))
    × (l.count ≤ l.turn-index)
