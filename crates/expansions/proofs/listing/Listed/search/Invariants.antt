use Rattle.scop_syntax.proofs.Common.{◌≤◌, ◌-◌, length}
use Rattle.expansions.proofs.listing.Listed.search.Given as goal

abbrev pub invariant-loop-low : goal.invariant-loop-low
invariant-loop-low l = record { order : l.low ≤ l.high; within : l.high ≤ length l.entries }

abbrev pub decreases-loop-low : goal.decreases-loop-low
decreases-loop-low l = l.high - l.low
