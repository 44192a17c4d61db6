use Rattle.scop_syntax.proofs.Common.{◌≡◌, ◌∙◌, ℕ, [], sym, some}
use Rattle.tile_events.specs.Core.{idle, working}
use Rattle.run_callers.proofs.cores.stretch_of_an_idle_worker.Goals as goal

differ : (t k : ℕ) → some idle ≡ some (working t k []) → ⊥
differ t k e = cc

pub returns : goal.returns
returns c = c.do_stretch.ensures.none (λ t k at. differ t k (sym c.requires.idle ∙ at.0))
