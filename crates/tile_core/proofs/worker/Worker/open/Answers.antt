use Rattle.scop_syntax.proofs.Common.{refl}
use Rattle.tile_core.proofs.Workers.{at_work, first_is}
use Rattle.tile_core.proofs.worker.Worker.open.Goals as goal

pub enter-requires-clause-place : goal.enter-requires-clause-place
enter-requires-clause-place c =
    (c.requires.plan.tiles.tiles c.args.tile c.tile-first.result.now c.tile-first.ensures).place

pub returns-clause-worker : goal.returns-clause-worker
returns-clause-worker c =
    let plan = c.args.plan.now in
    at_work plan _ c.args.tile 0 refl c.enter.ensures.spot c.requires.worker.desk c.requires.worker.desks
    c.requires.tile
    (λ left. first_is c.tiles_stand_one_behind_another.ensures.at plan c.args.tile c.tile-first.result.now
    c.enter.new.spot c.requires.plan c.tile-first.ensures c.enter.ensures.rest)
