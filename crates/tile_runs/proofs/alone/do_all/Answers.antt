use Rattle.scop_syntax.proofs.Common.{◌≡◌, suc, ◌+◌, arith, subst}
use Rattle.tile_core.specs.Cores.{state_in}
use Rattle.tile_events.specs.Core.{idle}
use Rattle.tile_runs.specs.steps.Alone.{IsAlone}
use Rattle.tile_runs.proofs.Cores.{later_then}
use Rattle.tile_runs.proofs.alone.do_all.Goals as goal

pub loop-tile-preserved : goal.loop-tile-preserved
loop-tile-preserved c =
    let next : suc c.loop-tile.tile ≡ c.loop-tile.tile + 1 = omega arith in record {
      later = later_then c.args.core.now c.loop-tile.core c.do_tile.new.core c.loop-tile.invariant.later
          c.do_tile.ensures.later;
      alone = subst (λ n. IsAlone (state_in c.do_tile.new.core) n n idle) next c.do_tile.ensures.alone;
    }
