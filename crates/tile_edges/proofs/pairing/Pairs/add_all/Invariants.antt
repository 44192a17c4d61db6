use Rattle.scop_syntax.proofs.Common.{◌≡◌, length, take}
use Rattle.tile_edges.specs.steps.Gains.{Gains}
use Rattle.tile_edges.specs.steps.Rows.{AreKept, rows_in}
use Rattle.tile_edges.proofs.pairing.Pairs.add_all.Given as goal

abbrev pub invariant-loop-first : goal.invariant-loop-first
invariant-loop-first l = record {
  gains : Gains (take l.first-index l.firsts) l.second (rows_in l.fn.self) (rows_in l.self);
  kept : AreKept l.self;
  long : length l.self.rows.items ≡ length l.fn.self.rows.items;
}
