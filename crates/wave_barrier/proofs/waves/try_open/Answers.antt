use Rattle.std.proofs.Common.{rules}
use Rattle.wave_barrier.proofs.Counters.{first_word}
use Rattle.wave_barrier.proofs.Openings.{held_tile, opens}
use Rattle.wave_barrier.proofs.waves.try_open.Goals as goal

pub load-done-requires : goal.load-done-requires
load-done-requires c = (
  c.requires.pass.table,
  search rules,
  opens c.events_are_allowed.ensures.open c.args.words.now c.args.pass.now c.in-Holding.tile 1 c.requires.pass
      c.in-Holding.is (first_word c.args.words.now c.in-Holding.tile c.requires.edges),
)

pub needed-needs-requires-clause-tile : goal.needed-needs-requires-clause-tile
needed-needs-requires-clause-tile c = held_tile c.args.words.now c.args.pass.now c.in-Holding.tile c.requires.pass
    c.in-Holding.is

pub open-requires-clause-tile : goal.open-requires-clause-tile
open-requires-clause-tile c = held_tile c.args.words.now c.args.pass.now c.in-Holding.tile c.requires.pass
    c.in-Holding.is
