use Rattle.scop_syntax.proofs.Common.{[], ◌∷◌, arith, negsuc, pos, refl}
use Rattle.contract_callers.proofs.number_lists.dot_products_of_short_parts.Goals as goal

pub returns-clause-append : goal.returns-clause-append
returns-clause-append c = λ rest.
    c.dot_product_of_parts.ensures.append (pos 1 ∷ negsuc 1 ∷ []) rest (pos 3 ∷ pos 4 ∷ []) (pos 5 ∷ []) refl

pub returns-clause-padded : goal.returns-clause-padded
returns-clause-padded c = λ ys. c.dot_product_of_parts.ensures.padded (pos 1 ∷ negsuc 1 ∷ []) 2 ys

pub returns-clause-past : goal.returns-clause-past
returns-clause-past c = λ xs few. c.dot_product_of_parts.ensures.past xs (pos 3 ∷ pos 4 ∷ []) (pos 5 ∷ []) few

pub returns-clause-replaced : goal.returns-clause-replaced
returns-clause-replaced c = λ xs.
    c.dot_product_of_parts.ensures.replaced xs (pos 3 ∷ pos 4 ∷ []) 1 (pos 7) (omega arith)
