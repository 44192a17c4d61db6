use Rattle.scop_syntax.proofs.Common.{◌-◌, suc, length}
use Rattle.tile_edges.specs.steps.Touches.{AreEven, KeepSame}
use Rattle.tile_edges.proofs.touching.Traces.reach.Given as goal

abbrev pub invariant-loop-alloc : goal.invariant-loop-alloc
invariant-loop-alloc l = record {
  even : AreEven l.self;
  same : KeepSame l.fn.self l.self;
}

abbrev pub decreases-loop-alloc : goal.decreases-loop-alloc
decreases-loop-alloc l = suc l.cell - length l.self.marks.items
