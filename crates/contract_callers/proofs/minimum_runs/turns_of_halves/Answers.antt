use Rattle.scop_syntax.proofs.Common.{refl}
use Rattle.contract_callers.specs.Halves.{doubled, five}
use Rattle.contract_callers.proofs.minimum_runs.turns_of_halves.Goals as goal

pub returns : goal.returns
returns c = λ budget left tree run.
    c.turns_of_runs_can_be_told.ensures budget 1 1 doubled five tree left (refl, tt) (refl, (refl, tt)) run
