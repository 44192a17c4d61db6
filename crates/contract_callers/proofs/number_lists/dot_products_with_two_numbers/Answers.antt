use Rattle.scop_syntax.proofs.Common.{[], ◌∷◌, negsuc, pos}
use Rattle.contract_callers.proofs.number_lists.dot_products_with_two_numbers.Goals as goal

pub returns-clause-symmetric : goal.returns-clause-symmetric
returns-clause-symmetric c = λ xs. c.dot_product_is_bilinear.ensures.symmetric xs (pos 3 ∷ negsuc 0 ∷ [])

pub returns-clause-sum : goal.returns-clause-sum
returns-clause-sum c = λ xs.
    c.dot_product_is_bilinear.ensures.sum (pos 1 ∷ pos 2 ∷ []) xs (pos 3 ∷ negsuc 0 ∷ [])

pub returns-clause-multiple : goal.returns-clause-multiple
returns-clause-multiple c = λ xs. c.dot_product_is_bilinear.ensures.multiple (pos 2) xs (pos 3 ∷ negsuc 0 ∷ [])

pub returns-clause-zeros : goal.returns-clause-zeros
returns-clause-zeros c = λ xs. c.dot_product_is_bilinear.ensures.zeros 2 xs
