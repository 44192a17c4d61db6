use Rattle.scop_syntax.proofs.Common.{◌≡◌, ◌<◌, ℕ, get_or, length, nat_eq}
use Rattle.tile_events.specs.Plan.{count_of}
use Rattle.tile_edges.proofs.rows.needs_of.Given as goal

abbrev pub invariant-loop-at : goal.invariant-loop-at
invariant-loop-at l = record {
  long : length l.needs.items ≡ l.tiles;
  counts : (u : ℕ) → u < l.tiles → get_or l.needs.items u 0 ≡ count_of (λ i. nat_eq (get_or l.targets i 0) u) l.at;
}
