use Rattle.scop_syntax.proofs.Common.{◌≡◌, ◌<◌, ⊎_elim, arith, inr, refl}
use Rattle.tile_events.specs.Example.{two}
use Rattle.run_callers.proofs.events.plans_by_waves.Goals as goal

pub returns-clause-ordered : goal.returns-clause-ordered
returns-clause-ordered c = λ p by_waves good many touch one. ⊎_elim
    (λ (x : (p.tile 0 ≡ p.tile 2) × (p.position 0 < p.position 2)). x)
    (λ (x : p.wave (p.tile 0) < p.wave (p.tile 2)). absurd (omega (arith, x, one)))
    (c.plans_by_waves_are_good.ensures.ordered p by_waves good 0 2 (omega arith) many touch)

pub returns-clause-good : goal.returns-clause-good
returns-clause-good c = c.plans_by_waves_are_good.ensures.good two refl (λ i j before less touch. inr before)
