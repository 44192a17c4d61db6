-- Only blanks other than line feeds stand behind the place.
use Rattle.std.proofs.Common.{◌≡◌, ◌≤◌, take, length}
use Rattle.scop_lexer.specs.Bytes.{is_fresh}
use Rattle.scop_lexer.proofs.bytes.is_fresh.Given as goal

abbrev pub invariant-loop-at : goal.invariant-loop-at
invariant-loop-at l = record {
  within : l.at ≤ length l.front;
  same : is_fresh (take l.at l.front) ≡ is_fresh l.front;
}

abbrev pub decreases-loop-at : goal.decreases-loop-at
decreases-loop-at l = l.at
