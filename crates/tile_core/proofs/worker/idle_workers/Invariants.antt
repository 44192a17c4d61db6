use Rattle.scop_syntax.proofs.Common.{◌≡◌, map, All, replicate}
use Rattle.tile_events.specs.Core.{idle}
use Rattle.tile_core.specs.Workers.{IsWorker, worker_of}
use Rattle.tile_core.proofs.worker.idle_workers.Given as goal

abbrev pub invariant-loop : goal.invariant-loop
invariant-loop l = record {
  idle : map worker_of l.workers.items ≡ replicate l.counter idle;
  workers : All (IsWorker l.plan) l.workers.items;
}
