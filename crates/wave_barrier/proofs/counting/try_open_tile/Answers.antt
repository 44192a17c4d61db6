use Rattle.std.proofs.Common.{◌∙◌, sym}
use Rattle.wave_barrier.proofs.Counters.{tile_word}
use Rattle.wave_barrier.proofs.Openings.{held_tile}
use Rattle.wave_barrier.proofs.counting.try_open_tile.Goals as goal

pub counter_word-word-requires-clause-tile : goal.counter_word-word-requires-clause-tile
counter_word-word-requires-clause-tile c = held_tile c.args.words.now c.args.pass.now c.in-Holding.tile c.requires.pass
    c.in-Holding.is

pub needed-needs-requires-clause-tile : goal.needed-needs-requires-clause-tile
needed-needs-requires-clause-tile c = held_tile c.args.words.now c.args.pass.now c.in-Holding.tile c.requires.pass
    c.in-Holding.is

pub open_by-requires-clause-word : goal.open_by-requires-clause-word
open_by-requires-clause-word c =
    tile_word c.args.words.now c.in-Holding.tile c.requires.edges ∙ sym c.counter_word-word.ensures.word
