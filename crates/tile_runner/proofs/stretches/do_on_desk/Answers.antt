use Rattle.scop_syntax.proofs.Common.{[], ap, subst}
use Rattle.array_words.specs.Seats.{IsSeat}
use Rattle.tile_core.specs.Views.{done_at, tile_at}
use Rattle.tile_core.specs.declared.worker.Stage.{Stage}
use Rattle.tile_core.specs.declared.worker.Worker.{Worker}
use Rattle.tile_runner.specs.steps.Laid.{IsOnDesk}
use Rattle.tile_runner.proofs.Laid.{desk_on, here_laid, laid_at_first, laid_on, seat_on, stands, worker_kept}
use Rattle.tile_runner.proofs.stretches.do_on_desk.Goals as goal

pub loop-init : goal.loop-init
loop-init c =
    let w = c.args.words.now in
    let s = c.args.worker.now.stage in
    let a = c.requires.ahead in
    record {
      seat = subst (λ (u : Stage). IsSeat w u [] c.args.seat.now) (stands s a.tile a.done a.works) c.requires.seat;
      laid = laid_at_first w.plan s c.lay_next-row.result.now
          (IsOnDesk c.lay_next-row.result.now c.lay_next-row.new.worker.desk) c.args.count
          (c.lay_next-row.ensures.laid c.args.count a);
      worker = c.lay_next-row.ensures.worker;
      same = c.lay_next-row.ensures.same;
    }

pub do_laid-requires-clause-laid : goal.do_laid-requires-clause-laid
do_laid-requires-clause-laid c =
    let s = c.args.worker.now.stage in
    here_laid c.args.words.now c.lay_next-row.result.now c.loop.seat
    (IsOnDesk c.lay_next-row.result.now c.loop.worker.desk) (tile_at s) (done_at s)
    c.loop.counter c.args.count c.loop.invariant.seat c.loop.invariant.laid c.loop-test.true

pub loop-preserved : goal.loop-preserved
loop-preserved c =
    let w = c.args.words.now in
    let s = c.args.worker.now.stage in
    let row = c.lay_next-row.result.now in
    let is = c.loop.invariant in
    let worker = c.loop.worker in
    let new = c.do_laid.new.desk in
    let room = c.do_laid.ensures.room in
    record {
      seat = seat_on w c.loop.seat c.do_laid.new.seat (tile_at s) (done_at s) c.loop.counter is.seat
          c.do_laid.ensures.seat;
      laid = laid_on w row c.loop.seat (IsOnDesk row worker.desk) (tile_at s) (done_at s) c.loop.counter c.args.count
          is.seat is.laid c.loop-test.true (IsOnDesk row new) (desk_on row worker.desk new c.do_laid.ensures.laid room);
      worker = worker_kept w.plan worker new is.worker room;
      same = ap (λ (v : Worker). record v { desk = new }) is.same;
    }
