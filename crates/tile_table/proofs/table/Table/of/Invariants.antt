use Rattle.scop_syntax.proofs.Common.{◌≡◌, length, map, standing_of}
use Rattle.tile_table.specs.Tables.{IsRowBy}
use Rattle.tile_table.proofs.Pairs.{ArePaired}
use Rattle.tile_table.proofs.table.Table.of.Given as goal

abbrev pub invariant-loop-statement : goal.invariant-loop-statement
invariant-loop-statement l = record {
  count : length l.rows.items ≡ l.statement-index;
  each : ArePaired (IsRowBy l.marked l.extents l.params) (map standing_of l.statement-items) l.rows.items;
}
