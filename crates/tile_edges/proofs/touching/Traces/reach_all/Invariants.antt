use Rattle.scop_syntax.proofs.Common.{take}
use Rattle.tile_edges.specs.steps.Touches.{AreEven, HasRoom, KeepSame}
use Rattle.tile_edges.proofs.touching.Traces.reach_all.Given as goal

abbrev pub invariant-loop-cell : goal.invariant-loop-cell
invariant-loop-cell l = record {
  even : AreEven l.self;
  same : KeepSame l.fn.self l.self;
  room : HasRoom (take l.cell-index l.cells) l.self;
}
