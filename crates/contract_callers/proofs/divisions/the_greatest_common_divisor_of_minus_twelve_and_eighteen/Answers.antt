use Rattle.scop_syntax.proofs.Common.{ℤ, arith, refl, pos, negsuc, ◌+ℤ◌, ints, Divides}
use Rattle.whole_numbers.specs.Divisors.{IsGreatestCommonDivisor}
use Rattle.contract_callers.proofs.divisions.the_greatest_common_divisor_of_minus_twelve_and_eighteen.Goals as goal

-- 6 is their sum, so each common divisor divides it
six : ((d a b : ℤ) → Divides d a → Divides d b → Divides d (a +ℤ b))
    → IsGreatestCommonDivisor (negsuc 11) (pos 18) (pos 6)
six sum =
    record {
      not_negative = omega (arith, ints);
      left = record { quotient = negsuc 1; product = refl };
      right = record { quotient = pos 3; product = refl };
      greatest = λ d. sum d (negsuc 11) (pos 18);
    }

pub returns-clause-exists : goal.returns-clause-exists
returns-clause-exists c = c.greatest_common_divisor_is_unique.ensures.exists (negsuc 11) (pos 18)

pub returns-clause-unique : goal.returns-clause-unique
returns-clause-unique c = λ g is.
    c.greatest_common_divisor_is_unique.ensures.unique (negsuc 11) (pos 18) g (pos 6) is
    (six c.divisors_of_combinations.ensures.sum)

pub returns-clause-greatest : goal.returns-clause-greatest
returns-clause-greatest c = λ d first second.
    c.greatest_common_divisor_is_unique.ensures.greatest (negsuc 11) (pos 18) (pos 6) d
    (six c.divisors_of_combinations.ensures.sum) (omega (arith, ints)) first second

pub returns-clause-of_zero : goal.returns-clause-of_zero
returns-clause-of_zero c = c.greatest_common_divisor_is_unique.ensures.of_zero (negsuc 5)

pub returns-clause-turned : goal.returns-clause-turned
returns-clause-turned c =
    c.greatest_common_divisor_is_unique.ensures.turned (negsuc 11) (pos 18) (pos 6)
    (six c.divisors_of_combinations.ensures.sum)
