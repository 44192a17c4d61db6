use Rattle.scop_syntax.proofs.Common.{◌≡◌, [], take, instance_of}
use Rattle.tile_table.specs.Desks.{HasSameRoom, IsLaid}
use Rattle.tile_table.proofs.table.Table.value.Given as goal

abbrev pub invariant-loop-read : goal.invariant-loop-read
invariant-loop-read l = record {
  room : HasSameRoom l.fn.desk l.desk;
  laid : IsLaid l.row [] (instance_of l.instance).turns l.desk;
  put : take l.read l.desk.slots.items ≡ take l.read l.reads;
}
