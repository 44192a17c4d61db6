use Rattle.scop_syntax.proofs.Common.{◌+◌, suc, []}
use Rattle.tile_core.specs.Cores.{state_in}
use Rattle.tile_events.specs.Core.{working}
use Rattle.tile_runs.specs.steps.Alone.{IsAlone, IsLater}
use Rattle.tile_runs.proofs.alone.release_all.Given as goal

abbrev pub invariant-loop : goal.invariant-loop
invariant-loop l = record {
  later : IsLater l.fn.core l.core;
  alone : IsAlone (state_in l.core) (suc l.tile) l.tile (working l.tile (l.size + l.counter) []);
}
