-- Only a gap stands in front of the place.
use Rattle.std.proofs.Common.{◌≤◌, ◌-◌, length}
use Rattle.scop_lexer.specs.Tokens.{IsGap}
use Rattle.scop_lexer.proofs.lexer.next_token.Given as goal

abbrev pub invariant-loop-count : goal.invariant-loop-count
invariant-loop-count l = record {
  within : l.at ≤ length l.text;
  gap : IsGap l.text l.from l.at;
}

abbrev pub decreases-loop-count : goal.decreases-loop-count
decreases-loop-count l = length l.text - l.at
