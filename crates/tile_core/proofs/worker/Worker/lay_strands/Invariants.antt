use Rattle.scop_syntax.proofs.Common.{◌≡◌}
use Rattle.tile_core.specs.Strands.{AreLaid}
use Rattle.tile_core.specs.Workers.{IsWorker}
use Rattle.tile_core.proofs.worker.Worker.lay_strands.Given as goal

abbrev pub invariant-loop-at : goal.invariant-loop-at
invariant-loop-at l = record {
  laid : AreLaid l.plan.table.now l.self.spot.braid 0 l.at 0 l.self.desks.items;
  same : l.self ≡ record l.fn.self { desks = l.self.desks };
  worker : IsWorker l.plan l.self;
}
