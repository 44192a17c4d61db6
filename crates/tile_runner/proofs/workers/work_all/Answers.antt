use denote.Param.Send.{sendable}
use Rattle.std.proofs.Crossing.{crosses}
use Rattle.tile_core.proofs.Crosses.{words_sync}
use Rattle.tile_runner.proofs.workers.work_all.Goals as goal

pub for_each_mut-requires-sync-F : goal.for_each_mut-requires-sync-F
for_each_mut-requires-sync-F g c κs within = search (crosses, words_sync, sendable) depth 60 fits 20000
