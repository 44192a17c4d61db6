-- The product so far times that of the extents to come is that of all.
use Rattle.scop_syntax.proofs.Common.{◌≡◌, ◌≤◌, ◌*◌, ◌^◌, drop, cell_count}
use Rattle.data_text.proofs.counts.cell_count.Given as goal

abbrev pub invariant-loop-extent : goal.invariant-loop-extent
invariant-loop-extent l = record {
  value : l.count * cell_count (drop l.extent-index l.extents) ≡ cell_count l.extents;
  small : l.count ≤ 2 ^ (23 * l.extent-index);
}
