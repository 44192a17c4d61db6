use Rattle.scop_syntax.proofs.Common.{negsuc, pos, ◌+ℤ◌, ◌*ℤ◌}
use Rattle.contract_callers.proofs.ordered_numbers.sums_and_products_with_small_numbers.Goals as goal

pub returns-clause-sums_group : goal.returns-clause-sums_group
returns-clause-sums_group c = λ a.
    c.whole_numbers_are_a_commutative_ring.ensures.sums_group a (pos 2) (negsuc 4)

pub returns-clause-sums_turn : goal.returns-clause-sums_turn
returns-clause-sums_turn c = λ a.
    c.whole_numbers_are_a_commutative_ring.ensures.sums_turn a (negsuc 2)

pub returns-clause-zero_is_the_unit : goal.returns-clause-zero_is_the_unit
returns-clause-zero_is_the_unit c = λ a.
    c.whole_numbers_are_a_commutative_ring.ensures.zero_is_the_unit (a *ℤ negsuc 1)

pub returns-clause-negation : goal.returns-clause-negation
returns-clause-negation c = λ a.
    c.whole_numbers_are_a_commutative_ring.ensures.negation (a *ℤ pos 3)

pub returns-clause-products_group : goal.returns-clause-products_group
returns-clause-products_group c = λ a.
    c.whole_numbers_are_a_commutative_ring.ensures.products_group a (pos 2) (negsuc 2)

pub returns-clause-products_turn : goal.returns-clause-products_turn
returns-clause-products_turn c = λ a.
    c.whole_numbers_are_a_commutative_ring.ensures.products_turn a (negsuc 2)

pub returns-clause-one_is_the_unit : goal.returns-clause-one_is_the_unit
returns-clause-one_is_the_unit c = λ a.
    c.whole_numbers_are_a_commutative_ring.ensures.one_is_the_unit (a +ℤ pos 2)

pub returns-clause-over_sums : goal.returns-clause-over_sums
returns-clause-over_sums c = λ a.
    c.whole_numbers_are_a_commutative_ring.ensures.over_sums a (pos 5) (negsuc 1)

pub returns-clause-over_differences : goal.returns-clause-over_differences
returns-clause-over_differences c = λ a.
    c.whole_numbers_are_a_commutative_ring.ensures.over_differences (pos 7) a (pos 3)
