use Rattle.scop_syntax.proofs.Common.{⊎_elim, arith}
use Rattle.run_callers.proofs.waiting.tiles_that_wait.Goals as goal

pub returns-clause-released : goal.returns-clause-released
returns-clause-released c plan e cells s is some sound pair begun =
    ((c.opened_tiles_were_released.ensures.released plan e cells s is some sound).opened 0 pair begun).1

pub returns-clause-conflicts : goal.returns-clause-conflicts
returns-clause-conflicts c plan e cells s is single some sound conflict begun apart =
    ⊎_elim (λ same. absurd (apart same)) (λ done. done)
    (c.opened_tiles_were_released.ensures.conflicts plan e cells s 0 1 is single some sound conflict begun)

pub returns-clause-sources : goal.returns-clause-sources
returns-clause-sources c plan e cells s is copied some sound source begun apart =
    ⊎_elim (λ same. absurd (apart same)) (λ done. done)
    (c.opened_tiles_were_released.ensures.sources plan e cells s 0 1 0 is copied some sound source begun)

pub returns-clause-rise : goal.returns-clause-rise
returns-clause-rise c plan e t is some leads =
    let less = c.opened_tiles_were_released.ensures.rise plan e t 0 is some leads in absurd (omega (arith, less))

pub returns-clause-filled : goal.returns-clause-filled
returns-clause-filled c plan e cells s is some sound there =
    c.opened_tiles_were_released.ensures.filled plan e cells s 0 is some sound there
    (λ t less. absurd (omega (arith, less)))
