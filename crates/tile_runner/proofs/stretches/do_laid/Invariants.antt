use Rattle.scop_syntax.proofs.Common.{◌≡◌, ℤ, List, length, take}
use Rattle.array_words.specs.Seats.{IsSeat}
use Rattle.tile_table.specs.Desks.{HasSameRoom, IsLaid}
use Rattle.tile_runner.proofs.stretches.do_laid.Given as goal

abbrev pub invariant-loop-read : goal.invariant-loop-read
invariant-loop-read l = record {
  seat : IsSeat l.words l.fn.seat.me.0.stage l.seat.me.0.reads l.seat;
  count : length l.seat.me.0.reads ≡ l.read;
  slots : take l.read l.desk.slots.items ≡ l.seat.me.0.reads;
  laid : (steps turns : List ℤ) → IsLaid l.row steps turns l.fn.desk → IsLaid l.row steps turns l.desk;
  room : HasSameRoom l.fn.desk l.desk;
}
