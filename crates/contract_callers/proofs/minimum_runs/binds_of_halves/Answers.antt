use Rattle.scop_syntax.proofs.Common.{[], ◌∷◌, arith, pos, refl}
use Rattle.contract_callers.specs.Halves.{doubled, five}
use Rattle.contract_callers.proofs.minimum_runs.binds_of_halves.Goals as goal

pub returns : goal.returns
returns c = λ budget left tree run.
    c.binds_are_not_negative.ensures budget 1 1 doubled five tree left (refl, tt) (refl, (refl, tt)) run (pos 5 ∷ [])
    refl (omega arith, tt) (omega arith, (omega arith, tt))
