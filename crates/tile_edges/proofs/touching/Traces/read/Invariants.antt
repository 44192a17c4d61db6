use Rattle.scop_syntax.proofs.Common.{◌≡◌, length, take}
use Rattle.tile_edges.specs.steps.Touches.{HasEntered, readers_in}
use Rattle.tile_edges.proofs.touching.Traces.read.Given as goal

abbrev pub invariant-loop-cell : goal.invariant-loop-cell
invariant-loop-cell l = record {
  marks : l.self.marks ≡ l.fn.self.marks;
  entered : HasEntered l.tile (take l.cell-index l.cells) (readers_in l.fn.self) (readers_in l.self);
  long : length l.self.readers.items ≡ length l.fn.self.readers.items;
}
