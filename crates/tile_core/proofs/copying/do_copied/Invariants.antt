use Rattle.scop_syntax.proofs.Common.{◌≡◌, take}
use Rattle.tile_core.specs.Plans.{place_of, walk_shape}
use Rattle.tile_core.specs.Workers.{IsWorker}
use Rattle.tile_core.specs.steps.Acts.{values_at}
use Rattle.tile_core.proofs.copying.do_copied.Given as goal

abbrev pub invariant-loop-read : goal.invariant-loop-read
invariant-loop-read l = record {
  reads : l.worker.reads.items ≡ values_at l.cells (take l.read ((walk_shape l.plan).read (place_of l.plan l.instance)));
  stage : l.worker.stage ≡ l.fn.worker.stage;
  worker : IsWorker l.plan l.worker;
}
