use Rattle.scop_syntax.proofs.Common.{subst, sym, arith, get_or, take_all, In}
use Rattle.tile_edges.proofs.Taken.{number_at}
use Rattle.tile_edges.proofs.Visits.{keep_both, room_more}
use Rattle.tile_edges.proofs.touching.Traces.reach_all.Goals as goal

pub loop-cell-preserved : goal.loop-cell-preserved
loop-cell-preserved c =
    let cells = c.args.cells.now in
    let k = c.loop-cell.cell-index in
    record {
      even = c.in_ok-reach.ensures.even;
      same = keep_both c.args.self.now c.loop-cell.self c.reach.new.self c.loop-cell.invariant.same
          c.in_ok-reach.ensures.same;
      room = room_more cells k (get_or cells k 0) c.loop-cell.self c.reach.new.self (omega arith)
          (number_at cells k (omega arith)) c.in_ok-reach.ensures.same c.in_ok-reach.ensures.room
          c.loop-cell.invariant.room;
    }

pub returns-clause-room : goal.returns-clause-room
returns-clause-room c d i =
    c.loop-cell.invariant.room d
    (subst (λ cs. In d cs) (sym (take_all c.loop-cell.cell-index c.args.cells.now (omega arith))) i)
