use Rattle.std.proofs.Common.{◌∙◌}
use Rattle.wave_barrier.proofs.Counters.{needed_in}
use Rattle.wave_barrier.proofs.waves.needed.Goals as goal

pub returns : goal.returns
returns c = c.needs.ensures ∙ needed_in c.args.words.now c.args.tile
