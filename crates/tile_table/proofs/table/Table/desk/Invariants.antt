use Rattle.scop_syntax.proofs.Common.{◌≡◌, ◌+◌, ◌<◌, ◌≤◌, ℕ, length, Some, slice_get}
use Rattle.tile_table.specs.declared.table.Row.{Row}
use Rattle.tile_table.proofs.table.Table.desk.Given as goal

abbrev pub invariant-loop-row : goal.invariant-loop-row
invariant-loop-row l =
    (k : ℕ) (row : Row) → k < l.row-index → slice_get l.self.rows.items k ≡ Some row
    → (length row.cells.items ≤ l.cells) × (length row.code.leaves.items ≤ l.leaves)
    × (row.code.reads + length row.code.steps.items ≤ l.slots)
