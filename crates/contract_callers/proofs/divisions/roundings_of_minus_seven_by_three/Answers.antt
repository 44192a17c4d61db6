use Rattle.scop_syntax.proofs.Common.{arith, pos, negsuc, ints}
use Rattle.contract_callers.proofs.Quotients.{down, up}
use Rattle.contract_callers.proofs.divisions.roundings_of_minus_seven_by_three.Goals as goal

pub returns-clause-floor : goal.returns-clause-floor
returns-clause-floor c =
    c.rounded_quotients_are_floor_and_ceiling.ensures.floor (negsuc 6) (pos 3) (omega (arith, ints))

pub returns-clause-one_floor : goal.returns-clause-one_floor
returns-clause-one_floor c = λ q is.
    c.rounded_quotients_are_floor_and_ceiling.ensures.one_floor (negsuc 6) (pos 3) q (negsuc 2) (omega (arith, ints)) is
    down

pub returns-clause-ceiling : goal.returns-clause-ceiling
returns-clause-ceiling c =
    c.rounded_quotients_are_floor_and_ceiling.ensures.ceiling (negsuc 6) (pos 3) (omega (arith, ints))

pub returns-clause-one_ceiling : goal.returns-clause-one_ceiling
returns-clause-one_ceiling c = λ q is.
    c.rounded_quotients_are_floor_and_ceiling.ensures.one_ceiling (negsuc 6) (pos 3) q (negsuc 1) (omega (arith, ints))
    is up

pub returns-clause-negated : goal.returns-clause-negated
returns-clause-negated c = c.rounded_quotients_are_floor_and_ceiling.ensures.negated (pos 7) (pos 3) (negsuc 2) down
