use Rattle.scop_syntax.proofs.Common.{◌≡◌, ◌-◌, ◌≤◌, []}
use Rattle.tile_core.specs.declared.worker.Stage.TheVariants.{Working}
use Rattle.tile_core.specs.Passes.{IsPass, walk_in}
use Rattle.tile_core.specs.Views.{done_at}
use Rattle.tile_runner.proofs.worker.do_tile.Given as goal

abbrev pub invariant-loop-tile : goal.invariant-loop-tile
invariant-loop-tile l = record {
  pass : IsPass l.words l.pass;
  stage : l.pass.worker.stage ≡ Working l.tile (done_at l.pass.worker.stage);
  within : done_at l.pass.worker.stage ≤ (walk_in l.words).size l.tile;
  reads : l.pass.worker.reads.items ≡ [];
}

abbrev pub decreases-loop-tile : goal.decreases-loop-tile
decreases-loop-tile l = (walk_in l.words).size l.tile - done_at l.pass.worker.stage
