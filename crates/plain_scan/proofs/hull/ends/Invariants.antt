use Rattle.scop_syntax.proofs.Common.{ℕ, ◌<◌, get_or, ◌≤ℤ◌, ◌≤◌, ◌^◌, unsigned_abs}
use Rattle.plain_scan.specs.declared.outline.Shadow.{Shadow}
use Rattle.plain_scan.specs.declared.set_outline.Outline.{Outline}
use Rattle.plain_scan.proofs.hull.ends.Given as goal

abbrev pub invariant-loop-outline : goal.invariant-loop-outline
invariant-loop-outline l = record {
  low : (k : ℕ) (d : Outline) (e : Shadow) → k < l.outline-index
      → l.low ≤ℤ (get_or (get_or l.outlines k d).shadows.items l.depth e).low;
  high : (k : ℕ) (d : Outline) (e : Shadow) → k < l.outline-index
      → (get_or (get_or l.outlines k d).shadows.items l.depth e).high ≤ℤ l.high;
  small_low : unsigned_abs l.low ≤ 2 ^ 40;
  small_high : unsigned_abs l.high ≤ 2 ^ 40;
}
