-- No `*/` begins in front of the place.
use Rattle.std.proofs.Common.{◌≡◌, ◌≤◌, ◌-◌, drop, length}
use Rattle.scop_lexer.specs.Gaps.{close}
use Rattle.scop_lexer.proofs.GapLemmas.{shifted}
use Rattle.scop_lexer.proofs.gaps.close.Given as goal

abbrev pub invariant-loop-at : goal.invariant-loop-at
invariant-loop-at l = record {
  within : l.at ≤ length l.text;
  found : shifted l.at (close (drop l.at l.text)) ≡ close l.text;
}

abbrev pub decreases-loop-at : goal.decreases-loop-at
decreases-loop-at l = length l.text - l.at
