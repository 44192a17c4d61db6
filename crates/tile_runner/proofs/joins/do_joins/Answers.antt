use Rattle.scop_syntax.proofs.Common.{ℤ, List, [], subst}
use Rattle.array_words.specs.Seats.{IsSeat}
use Rattle.tile_table.specs.Joins.{IsJoinAt}
use Rattle.tile_core.specs.Views.{done_at, tile_at}
use Rattle.tile_core.specs.declared.worker.Stage.{Stage}
use Rattle.tile_runner.proofs.Laid.{here_laid, laid_at_first, laid_on, seat_on, stands}
use Rattle.tile_runner.proofs.joins.do_joins.Goals as goal

pub loop-init : goal.loop-init
loop-init c =
    let s = c.args.seat.now.me.0.stage in
    let a = c.requires.laid in
    record {
      seat = subst (λ (u : Stage). IsSeat c.args.words.now u [] c.args.seat.now)
          (stands s a.are.tile a.are.done a.are.works) c.requires.seat;
      laid = record {
        row = a.row;
        are = laid_at_first c.args.words.now.plan s a.row
            (λ (steps turns : List ℤ). IsJoinAt a.row steps turns c.args.lanes) c.args.count a.are;
      };
    }

pub do_join-requires-clause-laid : goal.do_join-requires-clause-laid
do_join-requires-clause-laid c =
    let s = c.args.seat.now.me.0.stage in
    let a = c.loop.invariant.laid in record {
      row = a.row;
      are = here_laid c.args.words.now a.row c.loop.seat
          (λ (steps turns : List ℤ). IsJoinAt a.row steps turns c.loop.lanes) (tile_at s) (done_at s) c.loop.counter c.args.count c.loop.invariant.seat a.are c.loop-test.true;
    }

pub loop-preserved : goal.loop-preserved
loop-preserved c =
    let w = c.args.words.now in
    let s = c.args.seat.now.me.0.stage in
    let is = c.loop.invariant in
    let a = is.laid in record {
      seat = seat_on w c.loop.seat c.do_join.new.seat (tile_at s) (done_at s) c.loop.counter is.seat
          c.do_join.ensures.seat;
      laid = record {
        row = a.row;
        are = laid_on w a.row c.loop.seat (λ (steps turns : List ℤ). IsJoinAt a.row steps turns c.loop.lanes) (tile_at s)
            (done_at s) c.loop.counter c.args.count is.seat a.are c.loop-test.true
            (λ (steps turns : List ℤ). IsJoinAt a.row steps turns c.do_join.new.lanes) (c.do_join.ensures.laid a.row);
      };
    }
