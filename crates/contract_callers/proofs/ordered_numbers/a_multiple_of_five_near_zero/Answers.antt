use Rattle.scop_syntax.proofs.Common.{arith, pos, ints}
use Rattle.contract_callers.proofs.ordered_numbers.a_multiple_of_five_near_zero.Goals as goal

pub returns : goal.returns
returns c = λ w. c.multiples_below_a_divisor.ensures (pos 5) w (omega (arith, ints))
