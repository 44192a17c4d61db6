use Rattle.scop_syntax.proofs.Common.{arith, negsuc, pos, ints}
use Rattle.contract_callers.proofs.ordered_numbers.a_third_of_a_bounded_number.Goals as goal

pub returns-clause-at_most : goal.returns-clause-at_most
returns-clause-at_most c = λ a. c.positive_factors_cancel.ensures.at_most a (pos 4) (pos 3) (omega (arith, ints))

pub returns-clause-below : goal.returns-clause-below
returns-clause-below c = λ a. c.positive_factors_cancel.ensures.below a (negsuc 1) (pos 3) (omega (arith, ints))

pub returns-clause-equal : goal.returns-clause-equal
returns-clause-equal c = λ a. c.positive_factors_cancel.ensures.equal a (negsuc 1) (pos 3) (omega (arith, ints))
