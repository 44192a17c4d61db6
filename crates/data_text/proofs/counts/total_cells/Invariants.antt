-- The sum so far and that of the arrays to come is that of all.
use Rattle.scop_syntax.proofs.Common.{◌≡◌, ◌≤◌, ◌+◌, ◌*◌, ◌^◌, drop, total_cells}
use Rattle.data_text.proofs.counts.total_cells.Given as goal

abbrev pub invariant-loop-array : goal.invariant-loop-array
invariant-loop-array l = record {
  value : l.total + total_cells (drop l.array l.extents) ≡ total_cells l.extents;
  small : l.total ≤ l.array * 2 ^ 92;
}
