use Rattle.scop_syntax.proofs.Common.{[], ◌∷◌, ◌^◌, pos, refl, arith, falling_by_two, has_parameters, moved_left}
use Rattle.scop_syntax.proofs.Common.{falling}
use Rattle.scop_syntax.specs.Examples.{form}
use Rattle.contract_callers.proofs.walks.values_are_small.Goals as goal

pub returns-clause-moved : goal.returns-clause-moved
returns-clause-moved c = λ values small.
    c.values_stay_below_2_64.ensures [] 0 (moved_left 3) [] values (omega arith) small

pub returns-clause-forms : goal.returns-clause-forms
returns-clause-forms c = λ p xs among runs.
    c.values_lie_within_45_bits.ensures.values falling_by_two [] xs p 1 (form (pos 16 ∷ []) (pos (2 ^ 20)))
    (has_parameters falling) among runs
    (record { entries = refl; coefficients = (omega arith, tt); constant = omega arith })
