use Rattle.scop_syntax.proofs.Common.{refl, pos, negsuc}
use Rattle.contract_callers.proofs.divisions.divisors_of_minus_twelve_and_eighteen.Goals as goal

pub returns-clause-sum : goal.returns-clause-sum
returns-clause-sum c =
    c.divisors_of_combinations.ensures.sum (pos 6) (negsuc 11) (pos 18)
    (record { quotient = negsuc 1; product = refl }) (record { quotient = pos 3; product = refl })

pub returns-clause-multiple : goal.returns-clause-multiple
returns-clause-multiple c =
    c.divisors_of_combinations.ensures.multiple (pos 6) (negsuc 11) (negsuc 2)
    (record { quotient = negsuc 1; product = refl })

pub returns-clause-divisor : goal.returns-clause-divisor
returns-clause-divisor c =
    c.divisors_of_combinations.ensures.divisor (negsuc 2) (pos 6) (pos 18)
    (record { quotient = negsuc 1; product = refl }) (record { quotient = pos 3; product = refl })
