use Rattle.scop_syntax.proofs.Common.{rules, ◌<◌, ap, get_or, length, with_item, slice_get-get_or}
use Rattle.tile_core.specs.declared.worker.Worker.{Worker}
use Rattle.tile_core.proofs.Strands.{desks_put, laid_more, worker_with}
use Rattle.tile_core.proofs.worker.Worker.lay_strands.Goals as goal

pub loop-at-preserved : goal.loop-at-preserved
loop-at-preserved c =
    let plan = c.args.plan.now in
    let w = c.loop-at.self in
    let at = c.loop-at.at in
    let desk = c.lay_strand.new.desk in
    let inv = c.loop-at.invariant in
    let strand = get_or w.spot.braid.strands at c.index-self-at.result in
    let below : at < length w.spot.braid.strands = search rules in
    let within : at < length w.desks.items = search rules in record {
      laid = laid_more plan.table.now w.spot.braid w.desks.items at desk strand 0 within
          (slice_get-get_or w.spot.braid.strands at c.index-self-at.result below) c.lay_strand.ensures.laid inv.laid;
      same = ap (λ (v : Worker). record v { desks = with_item w.desks at desk }) inv.same;
      worker = worker_with plan w (with_item w.desks at desk) inv.worker
          (desks_put plan.table.now w.desks.items at desk inv.worker.desks c.lay_strand.ensures.room);
    }
