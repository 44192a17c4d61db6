use Rattle.scop_syntax.proofs.Common.{◌≡◌, [], ℕ, get_or, length, map}
use Rattle.tile_edges.specs.steps.Rows.{joined}
use Rattle.tile_edges.proofs.pairing.Pairs.none.Given as goal

abbrev pub invariant-loop-tile : goal.invariant-loop-tile
invariant-loop-tile l = record {
  long : length l.rows.items ≡ l.tile;
  none : joined (map (λ s. s.keys) l.rows.items) ≡ [];
  even : length l.told.items ≡ l.tile;
  told : (t : ℕ) → get_or l.told.items t t ≡ t;
}
