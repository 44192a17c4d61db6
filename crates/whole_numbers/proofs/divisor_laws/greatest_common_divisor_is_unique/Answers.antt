use Rattle.whole_numbers.proofs.Divisors.{gcd_unique, gcd_of_zero}
use Rattle.whole_numbers.proofs.divisor_laws.greatest_common_divisor_is_unique.Goals as goal

pub returns-clause-unique : goal.returns-clause-unique
returns-clause-unique c = gcd_unique

pub returns-clause-of_zero : goal.returns-clause-of_zero
returns-clause-of_zero c = gcd_of_zero
