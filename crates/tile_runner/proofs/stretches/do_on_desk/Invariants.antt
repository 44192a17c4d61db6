use Rattle.scop_syntax.proofs.Common.{◌≡◌, ◌+◌, ◌-◌, []}
use Rattle.array_words.specs.Seats.{IsSeat}
use Rattle.tile_core.specs.Views.{done_at, tile_at}
use Rattle.tile_core.specs.Workers.{IsWorker}
use Rattle.tile_core.specs.declared.worker.Stage.TheVariants.{Working}
use Rattle.tile_runner.specs.steps.Laid.{AreOnDesk}
use Rattle.tile_runner.proofs.stretches.do_on_desk.Given as goal

abbrev pub invariant-loop : goal.invariant-loop
invariant-loop l = record {
  seat : IsSeat l.words (Working (tile_at l.fn.worker.stage) (done_at l.fn.worker.stage + l.counter)) [] l.seat;
  laid : AreOnDesk l.words.plan (Working (tile_at l.fn.worker.stage) (done_at l.fn.worker.stage + l.counter)) l.row
      l.worker.desk (l.count - l.counter);
  worker : IsWorker l.words.plan l.worker;
  same : l.worker ≡ record l.fn.worker { desk = l.worker.desk };
}
