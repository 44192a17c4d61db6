use Rattle.scop_syntax.proofs.Common.{refl}
use Rattle.tile_core.proofs.Workers.{idle_is}
use Rattle.tile_core.proofs.worker.Worker.idle.Goals as goal

pub returns-clause-worker : goal.returns-clause-worker
returns-clause-worker c = idle_is c.args.plan.now _ refl (c.in_ok-spot.ensures.spot c.args.plan.now.params.now)
    c.in_ok-desk.ensures record { many = c.in_ok-desks.ensures.many; room = c.in_ok-desks.ensures.room }
