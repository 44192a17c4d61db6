use Rattle.scop_syntax.proofs.Common.{◌≡◌, length, take}
use Rattle.tile_edges.specs.steps.Gains.{Gains}
use Rattle.tile_edges.specs.steps.Rows.{AreKept, rows_in}
use Rattle.tile_edges.specs.steps.Touches.{marks_in}
use Rattle.tile_edges.specs.steps.Traces.{met}
use Rattle.tile_edges.proofs.touching.Traces.meet_writers.Given as goal

abbrev pub invariant-loop-cell : goal.invariant-loop-cell
invariant-loop-cell l = record {
  gains : Gains (met (marks_in l.self) (take l.cell-index l.cells)) l.tile (rows_in l.fn.pairs) (rows_in l.pairs);
  kept : AreKept l.pairs;
  long : length l.pairs.rows.items ≡ length l.fn.pairs.rows.items;
}
