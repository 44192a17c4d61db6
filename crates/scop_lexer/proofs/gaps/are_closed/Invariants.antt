-- The comments are closed if those from the place on are.
use Rattle.std.proofs.Common.{◌≡◌, ◌-◌, false, drop, length}
use Rattle.scop_lexer.specs.Gaps.{are_closed}
use Rattle.scop_lexer.proofs.gaps.are_closed.Given as goal

abbrev pub invariant-loop-at : goal.invariant-loop-at
invariant-loop-at l = are_closed l.inside (drop l.at l.line) ≡ are_closed false l.line

abbrev pub decreases-loop-at : goal.decreases-loop-at
decreases-loop-at l = length l.line - l.at
