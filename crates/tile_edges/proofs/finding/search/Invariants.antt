use Rattle.scop_syntax.proofs.Common.{◌<◌, ◌≤◌, ◌-◌, ℕ, length}
use Rattle.tile_edges.specs.steps.Finding.{Stands}
use Rattle.tile_edges.proofs.finding.search.Given as goal

abbrev pub invariant-loop-high : goal.invariant-loop-high
invariant-loop-high l = record {
  some : l.low < l.high;
  within : l.high ≤ length l.places;
  around : (t : ℕ) → Stands l.places l.place t → (l.low ≤ t) × (t < l.high);
}

abbrev pub decreases-loop-high : goal.decreases-loop-high
decreases-loop-high l = l.high - l.low
