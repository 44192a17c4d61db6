use Rattle.scop_syntax.proofs.Common.{◌≡◌, false, true}
use Rattle.plan_check.proofs.SoundDerivations.{derived_none}
use Rattle.plan_check.proofs.derivation_laws.derivations_leave_no_point.Goals as goal

pub returns : goal.returns
returns c = λ n k rows lines point sized fits run at.
    derived_none n k false rows lines point sized fits (λ (e : false ≡ true). absurd cc) run at
