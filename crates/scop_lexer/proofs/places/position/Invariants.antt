-- The line and the column so far, and what the bytes to come make of them.
use Rattle.std.proofs.Common.{◌≡◌, ◌≤◌, ◌+◌, ◌-◌, drop}
use Rattle.scop_lexer.specs.Lines.{line_feeds, behind_line_feed}
use Rattle.scop_lexer.proofs.places.position.Given as goal

abbrev pub invariant-loop-byte : goal.invariant-loop-byte
invariant-loop-byte l = record {
  line : l.line + line_feeds (drop l.byte-index l.front) ≡ line_feeds l.front + 1;
  column : behind_line_feed (l.column - 1) (drop l.byte-index l.front) ≡ behind_line_feed 0 l.front;
  first : 1 ≤ l.column;
  lines_within : l.line ≤ l.byte-index + 1;
  columns_within : l.column ≤ l.byte-index + 1;
}
