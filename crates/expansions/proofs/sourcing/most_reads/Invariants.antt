use Rattle.scop_syntax.proofs.Common.{◌≡◌, ◌<◌, ◌≤◌, ℕ, Some, slice_get}
use Rattle.tile_table.specs.declared.table.Row.{Row}
use Rattle.expansions.proofs.sourcing.most_reads.Given as goal

abbrev pub invariant-loop-row : goal.invariant-loop-row
invariant-loop-row l =
    (k : ℕ) (row : Row) → k < l.row-index → slice_get l.rows k ≡ Some row → row.code.reads ≤ l.most
