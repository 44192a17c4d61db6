use Rattle.wave_barrier.proofs.Openings.{held_tile, opens}
use Rattle.wave_barrier.proofs.counting.open_by.Goals as goal

pub load-seen-requires : goal.load-seen-requires
load-seen-requires c = (
  c.requires.pass.table,
  c.requires.inside,
  opens c.events_are_allowed.ensures.open c.args.words.now c.args.pass.now c.args.tile c.args.word c.requires.pass
      c.requires.holding c.requires.word,
)

pub open-requires-clause-tile : goal.open-requires-clause-tile
open-requires-clause-tile c = held_tile c.args.words.now c.args.pass.now c.args.tile c.requires.pass c.requires.holding
