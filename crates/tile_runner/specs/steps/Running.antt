-- A pass before and after its worker's run.
use Rattle.std.specs.Prelude.{◌≡◌}
use Rattle.tile_core.specs.declared.worker.Stage.TheVariants.{Idle, Ended}
use Rattle.tile_core.specs.declared.words.Words.{Words}
use Rattle.tile_core.specs.declared.words.Pass.{Pass}
use Rattle.tile_core.specs.Passes.{IsPass}

-- a pass of these words that is idle
pub record IsReady (words : Words) (pass : Pass) : Type 0 where
  pub is : IsPass words pass
  pub idle : pass.worker.stage ≡ Idle

-- a pass of these words that has ended
pub record IsOver (words : Words) (pass : Pass) : Type 0 where
  pub is : IsPass words pass
  pub ended : pass.worker.stage ≡ Ended
