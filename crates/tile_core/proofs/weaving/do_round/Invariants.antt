use Rattle.scop_syntax.proofs.Common.{◌≡◌, ℕ, suc}
use Rattle.tile_core.specs.Plans.{plain_shape}
use Rattle.tile_core.specs.Strands.{AreLaid, IsRound}
use Rattle.tile_core.specs.Workers.{IsWorker}
use Rattle.tile_core.specs.steps.Acts.{after_instances}
use Rattle.tile_core.proofs.weaving.do_round.Given as goal

abbrev pub invariant-loop-at : goal.invariant-loop-at
invariant-loop-at l = record {
  cells : (round t k : ℕ) → IsRound l.plan l.fn.worker.spot.braid round t k l.fn.worker.desks.items
      → l.cells ≡ after_instances (plain_shape l.plan) t k l.at l.fn.cells;
  laid : (round : ℕ)
      → AreLaid l.plan.table.now l.fn.worker.spot.braid 0 l.fn.worker.spot.braid.count round l.fn.worker.desks.items
      → AreLaid l.plan.table.now l.fn.worker.spot.braid 0 l.at (suc round) l.worker.desks.items
      × AreLaid l.plan.table.now l.fn.worker.spot.braid l.at l.fn.worker.spot.braid.count round l.worker.desks.items;
  same : l.worker ≡ record l.fn.worker { desks = l.worker.desks };
  worker : IsWorker l.plan l.worker;
}
