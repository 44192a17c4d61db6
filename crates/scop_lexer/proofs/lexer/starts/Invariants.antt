-- The text in front of the place is the tokens so far, and gaps.
use Rattle.std.proofs.Common.{◌≤◌, ◌-◌, length}
use Rattle.scop_lexer.specs.Tokens.{AreTokens, tokens_at}
use Rattle.scop_lexer.proofs.lexer.starts.Given as goal

abbrev pub invariant-loop-starts : goal.invariant-loop-starts
invariant-loop-starts l = record {
  within : l.at ≤ length l.text;
  tokens : AreTokens l.text 0 (tokens_at l.text l.starts.items) l.at;
}

abbrev pub decreases-loop-starts : goal.decreases-loop-starts
decreases-loop-starts l = length l.text - l.at
