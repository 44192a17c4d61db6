use Rattle.std.proofs.Common.{rules}
use Rattle.wave_barrier.proofs.Finishes.{finishes}
use Rattle.wave_barrier.proofs.finishing.finish.Goals as goal

pub fetch_add-requires : goal.fetch_add-requires
fetch_add-requires c = (
  c.requires.pass.table,
  search rules,
  finishes c.args.words.now c.args.pass.now c.events_are_allowed.ensures.finish c.requires.pass c.requires.full,
)
