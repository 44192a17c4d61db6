use Rattle.scop_syntax.proofs.Common.{◌≡◌, ℕ, ◌+◌, ◌<◌, get_or, length, some, get_elem?}
use Rattle.std.specs.Mem.Slots.{slots_items}
use Rattle.array_words.proofs.closing.copy_words.Given as goal

abbrev pub invariant-loop-at : goal.invariant-loop-at
invariant-loop-at l = record {
  long : length l.cells ≡ length l.fn.cells;
  copied : (c : ℕ) → c < l.at → get_elem? (slots_items l.closed.words) (c + 2) ≡ some (get_or l.cells c 0);
}
