use Rattle.scop_syntax.proofs.Common.{◌≡◌, length}
use Rattle.tile_core.specs.Passes.{IsPass}
use Rattle.tile_runner.proofs.copies.load_all.Given as goal

abbrev pub invariant-loop-read : goal.invariant-loop-read
invariant-loop-read l = record {
  pass : IsPass l.words l.pass;
  stage : l.pass.worker.stage ≡ l.fn.pass.worker.stage;
  count : length l.pass.worker.reads.items ≡ l.read;
}
