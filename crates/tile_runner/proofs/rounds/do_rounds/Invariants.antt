use Rattle.scop_syntax.proofs.Common.{◌≡◌, ◌+◌, ◌*◌, [], suc}
use Rattle.array_words.specs.Seats.{IsSeat}
use Rattle.tile_core.specs.Strands.{AreLaid}
use Rattle.tile_core.specs.Views.{done_at, tile_at}
use Rattle.tile_core.specs.Workers.{IsWorker}
use Rattle.tile_core.specs.declared.worker.Stage.TheVariants.{Working}
use Rattle.tile_runner.proofs.rounds.do_rounds.Given as goal

abbrev pub invariant-loop : goal.invariant-loop
invariant-loop l = record {
  seat : IsSeat l.words (Working (tile_at l.fn.worker.stage)
      (suc (done_at l.fn.worker.stage) + l.counter * l.fn.worker.spot.braid.count)) [] l.seat;
  laid : AreLaid l.words.plan.table.now l.fn.worker.spot.braid 0 l.fn.worker.spot.braid.count l.counter
      l.worker.desks.items;
  same : l.worker ≡ record l.fn.worker { desks = l.worker.desks };
  worker : IsWorker l.words.plan l.worker;
}
