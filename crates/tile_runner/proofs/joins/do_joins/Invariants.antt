use Rattle.scop_syntax.proofs.Common.{◌+◌, ◌-◌, []}
use Rattle.array_words.specs.Seats.{IsSeat}
use Rattle.tile_core.specs.Views.{done_at, tile_at}
use Rattle.tile_core.specs.declared.worker.Stage.TheVariants.{Working}
use Rattle.tile_runner.specs.steps.Laid.{AreJoined}
use Rattle.tile_runner.proofs.joins.do_joins.Given as goal

abbrev pub invariant-loop : goal.invariant-loop
invariant-loop l = record {
  seat : IsSeat l.words (Working (tile_at l.fn.seat.me.0.stage) (done_at l.fn.seat.me.0.stage + l.counter)) [] l.seat;
  laid : AreJoined l.words.plan (Working (tile_at l.fn.seat.me.0.stage) (done_at l.fn.seat.me.0.stage + l.counter))
      l.lanes (l.count - l.counter);
}
