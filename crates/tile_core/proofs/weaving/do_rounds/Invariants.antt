use Rattle.scop_syntax.proofs.Common.{◌≡◌, ◌*◌, ℕ, suc}
use Rattle.tile_core.specs.Plans.{plain_shape}
use Rattle.tile_core.specs.Strands.{AreLaid}
use Rattle.tile_core.specs.Workers.{IsWorker}
use Rattle.tile_core.specs.declared.worker.Stage.TheVariants.{Working}
use Rattle.tile_core.specs.steps.Acts.{after_instances}
use Rattle.tile_core.proofs.weaving.do_rounds.Given as goal

abbrev pub invariant-loop : goal.invariant-loop
invariant-loop l = record {
  cells : (t k : ℕ) → l.fn.worker.stage ≡ Working t k
      → l.cells
      ≡ after_instances (plain_shape l.plan) t (suc k) (l.counter * l.fn.worker.spot.braid.count) l.fn.cells;
  laid : AreLaid l.plan.table.now l.fn.worker.spot.braid 0 l.fn.worker.spot.braid.count l.counter
      l.worker.desks.items;
  same : l.worker ≡ record l.fn.worker { desks = l.worker.desks };
  worker : IsWorker l.plan l.worker;
}
