use Rattle.scop_syntax.proofs.Common.{◌≡◌, program_of}
use Rattle.loop_tree.specs.TilingView.{tiling_of}
use Rattle.loop_tree.specs.View.{trees_in}
use Rattle.tile_table.specs.Desks.{HasRoomForAll, IsLaid}
use Rattle.tile_edges.specs.steps.Ahead.{steps_in, to_come_on, turns_in}
use Rattle.tile_edges.specs.steps.Walks.{IsOnItsWay}
use Rattle.tile_edges.proofs.walking.take_ahead.Given as goal

abbrev pub invariant-loop : goal.invariant-loop
invariant-loop l = record {
  finder : l.pass.finder ≡ l.fn.pass.finder;
  room : HasRoomForAll l.table l.pass.desk;
  laid : IsLaid l.row (steps_in l.spot.stretch) (turns_in l.spot.stretch l.counter) l.pass.desk;
  way : IsOnItsWay l.flow (program_of l.kernel) l.params (tiling_of l.tiling) l.list
      (to_come_on (trees_in l.source) l.params l.spot l.counter) l.pass.traces l.pass.pairs;
}
