use Rattle.scop_syntax.proofs.Common.{[], ◌∷◌, arith, negsuc, pos, refl, ints}
use Rattle.contract_callers.proofs.number_lists.lists_times_positive_numbers.Goals as goal

pub returns-clause-multiples : goal.returns-clause-multiples
returns-clause-multiples c = λ xs.
    c.positive_factors_keep_the_lexicographic_order.ensures.multiples (pos 3) xs (pos 1 ∷ negsuc 1 ∷ [])
    (omega (arith, ints))

pub returns-clause-products : goal.returns-clause-products
returns-clause-products c = λ x y.
    c.positive_factors_keep_the_lexicographic_order.ensures.products (pos 2 ∷ pos 3 ∷ []) (x ∷ y ∷ [])
    (pos 1 ∷ negsuc 1 ∷ []) (omega (arith, ints), (omega (arith, ints), tt)) refl refl
