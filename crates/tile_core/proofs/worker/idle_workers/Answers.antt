use Rattle.tile_core.proofs.Workers.{workers_more}
use Rattle.tile_core.proofs.worker.idle_workers.Goals as goal

pub loop-preserved : goal.loop-preserved
loop-preserved c =
    let more = workers_more c.args.plan.now c.loop.workers.items c.push.new.self.items c.in_ok-idle.field-0
    c.loop.counter c.in_ok-push.ensures.items c.loop.invariant.idle c.loop.invariant.workers
    c.in_ok-idle.ensures.stage c.in_ok-idle.ensures.worker in
    record { idle = more.0; workers = more.1 }
