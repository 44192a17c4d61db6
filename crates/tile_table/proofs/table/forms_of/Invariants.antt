use Rattle.scop_syntax.proofs.Common.{◌≡◌, length, standing_of}
use Rattle.tile_table.specs.Tables.{Tells, touched}
use Rattle.tile_table.proofs.Pairs.{ArePaired}
use Rattle.tile_table.proofs.table.forms_of.Given as goal

abbrev pub invariant-loop-at : goal.invariant-loop-at
invariant-loop-at l = record {
  count : length l.forms.items ≡ l.at;
  each : ArePaired (Tells l.extents l.params (standing_of l.statement).heads) (touched l.adds (standing_of l.statement).body)
      l.forms.items;
}
