use Rattle.tile_core.specs.Cores.{state_in}
use Rattle.tile_events.specs.Core.{idle}
use Rattle.tile_runs.specs.steps.Alone.{IsAlone, IsLater}
use Rattle.tile_runs.proofs.alone.do_all.Given as goal

abbrev pub invariant-loop-tile : goal.invariant-loop-tile
invariant-loop-tile l = record {
  later : IsLater l.fn.core l.core;
  alone : IsAlone (state_in l.core) l.tile l.tile idle;
}
