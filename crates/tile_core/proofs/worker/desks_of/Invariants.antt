use Rattle.scop_syntax.proofs.Common.{◌≡◌, length, All}
use Rattle.tile_table.specs.Desks.{HasRoomForAll}
use Rattle.tile_core.proofs.worker.desks_of.Given as goal

abbrev pub invariant-loop : goal.invariant-loop
invariant-loop l = record {
  many : length l.desks.items ≡ l.counter;
  room : All (HasRoomForAll l.table) l.desks.items;
}
