use Rattle.scop_syntax.proofs.Common.{[], ◌∷◌, arith, pos, negsuc, ints}
use Rattle.contract_callers.proofs.divisions.a_row_in_floors_and_remainders.Goals as goal

pub returns-clause-apart : goal.returns-clause-apart
returns-clause-apart c = λ x y.
    c.dot_products_of_floors_and_remainders.ensures.apart (pos 3) (negsuc 6 ∷ pos 5 ∷ []) (x ∷ y ∷ [])

pub returns-clause-sign : goal.returns-clause-sign
returns-clause-sign c =
    c.dot_products_of_floors_and_remainders.ensures.sign (pos 3) (negsuc 6 ∷ pos 5 ∷ []) (omega (arith, ints))
