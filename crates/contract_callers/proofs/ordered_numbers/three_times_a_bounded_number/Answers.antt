use Rattle.scop_syntax.proofs.Common.{arith, negsuc, pos, ints}
use Rattle.contract_callers.proofs.ordered_numbers.three_times_a_bounded_number.Goals as goal

pub returns-clause-kept : goal.returns-clause-kept
returns-clause-kept c = λ a most.
    c.products_keep_the_order.ensures.kept a (pos 4) (pos 3) most (omega (arith, ints))

pub returns-clause-strict : goal.returns-clause-strict
returns-clause-strict c = λ a above.
    c.products_keep_the_order.ensures.strict (negsuc 1) a (pos 3) above (omega (arith, ints))

pub returns-clause-turned : goal.returns-clause-turned
returns-clause-turned c = λ a most.
    c.products_keep_the_order.ensures.turned a (pos 4) (negsuc 2) most (omega (arith, ints))
