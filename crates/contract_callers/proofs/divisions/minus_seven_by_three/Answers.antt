use Rattle.scop_syntax.proofs.Common.{arith, pos, negsuc, ints}
use Rattle.contract_callers.proofs.Quotients.{divided}
use Rattle.contract_callers.proofs.divisions.minus_seven_by_three.Goals as goal

pub returns-clause-exists : goal.returns-clause-exists
returns-clause-exists c = c.euclidean_division_exists.ensures (negsuc 6) (pos 3) (omega (arith, ints))

pub returns-clause-unique : goal.returns-clause-unique
returns-clause-unique c = λ q r is.
    c.euclidean_division_is_unique.ensures.unique (negsuc 6) (pos 3) q r (negsuc 2) (pos 2) is divided

pub returns-clause-quotient : goal.returns-clause-quotient
returns-clause-quotient c =
    c.euclidean_division_is_unique.ensures.quotient (negsuc 6) (pos 3) (negsuc 2) (pos 2) divided
