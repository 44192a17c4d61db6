use Rattle.scop_syntax.proofs.Common.{[], ◌∷◌, pos}
use Rattle.contract_callers.proofs.number_lists.dot_products_behind_two_numbers.Goals as goal

pub returns-clause-split : goal.returns-clause-split
returns-clause-split c = λ xs. c.dot_product_behind_others.ensures.split xs (pos 3 ∷ pos 4 ∷ []) (pos 5 ∷ [])

pub returns-clause-zeros : goal.returns-clause-zeros
returns-clause-zeros c = λ xs. c.dot_product_behind_others.ensures.zeros 2 xs (pos 5 ∷ [])
