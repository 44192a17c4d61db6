use Rattle.scop_syntax.proofs.Common.{◌≡◌, ◌+◌}
use Rattle.tile_core.specs.Passes.{IsPass, walk_in}
use Rattle.tile_core.specs.declared.worker.Stage.TheVariants.{Working}
use Rattle.tile_runner.proofs.worker.release_all.Given as goal

abbrev pub invariant-loop : goal.invariant-loop
invariant-loop l = record {
  pass : IsPass l.words l.pass;
  stage : l.pass.worker.stage ≡ Working l.tile ((walk_in l.words).size l.tile + l.counter);
}
