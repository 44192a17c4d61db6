use Rattle.scop_syntax.proofs.Common.{[], ◌∷◌, arith, pos, ints}
use Rattle.contract_callers.proofs.number_lists.dot_products_without_a_negative_entry.Goals as goal

pub returns-clause-sign : goal.returns-clause-sign
returns-clause-sign c = λ xs signs.
    c.dot_product_is_not_negative.ensures.sign xs (pos 2 ∷ pos 0 ∷ pos 1 ∷ []) signs
    (omega (arith, ints), (omega (arith, ints), (omega (arith, ints), tt)))

pub returns-clause-entries : goal.returns-clause-entries
returns-clause-entries c = λ xs. c.dot_product_is_not_negative.ensures.entries (pos 2 ∷ xs)
