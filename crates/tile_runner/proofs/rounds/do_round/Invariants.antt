use Rattle.scop_syntax.proofs.Common.{◌≡◌, ◌+◌, [], ℕ, suc}
use Rattle.array_words.specs.Seats.{IsSeat}
use Rattle.tile_core.specs.Strands.{AreLaid}
use Rattle.tile_core.specs.Views.{done_at, tile_at}
use Rattle.tile_core.specs.Workers.{IsWorker}
use Rattle.tile_core.specs.declared.worker.Stage.TheVariants.{Working}
use Rattle.tile_runner.proofs.rounds.do_round.Given as goal

abbrev pub invariant-loop-at : goal.invariant-loop-at
invariant-loop-at l = record {
  seat : IsSeat l.words (Working (tile_at l.fn.seat.me.0.stage) (done_at l.fn.seat.me.0.stage + l.at)) [] l.seat;
  laid : (round : ℕ)
      → AreLaid l.words.plan.table.now l.fn.worker.spot.braid 0 l.fn.worker.spot.braid.count round
      l.fn.worker.desks.items
      → AreLaid l.words.plan.table.now l.fn.worker.spot.braid 0 l.at (suc round) l.worker.desks.items
      × AreLaid l.words.plan.table.now l.fn.worker.spot.braid l.at l.fn.worker.spot.braid.count round
      l.worker.desks.items;
  same : l.worker ≡ record l.fn.worker { desks = l.worker.desks };
  worker : IsWorker l.words.plan l.worker;
}
