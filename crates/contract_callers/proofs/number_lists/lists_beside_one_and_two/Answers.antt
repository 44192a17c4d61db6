use Rattle.scop_syntax.proofs.Common.{[], ◌∷◌, arith, inl, inr, pos, refl, ints}
use Rattle.contract_callers.proofs.number_lists.lists_beside_one_and_two.Goals as goal

pub returns-clause-irreflexive : goal.returns-clause-irreflexive
returns-clause-irreflexive c = λ xs. c.lexicographic_order_is_total.ensures.irreflexive (pos 1 ∷ pos 2 ∷ xs)

pub returns-clause-transitive : goal.returns-clause-transitive
returns-clause-transitive c = λ xs.
    c.lexicographic_order_is_total.ensures.transitive (pos 1 ∷ pos 2 ∷ []) (pos 1 ∷ pos 5 ∷ []) xs
    (inr (refl, inl (omega (arith, ints))))

pub returns-clause-total : goal.returns-clause-total
returns-clause-total c = λ xs. c.lexicographic_order_is_total.ensures.total (pos 1 ∷ pos 2 ∷ []) xs

pub returns-clause-at_most : goal.returns-clause-at_most
returns-clause-at_most c = λ xs. c.lexicographic_order_is_total.ensures.at_most (pos 1 ∷ pos 2 ∷ []) xs

pub returns-clause-antisymmetric : goal.returns-clause-antisymmetric
returns-clause-antisymmetric c = λ xs. c.lexicographic_order_is_total.ensures.antisymmetric (pos 1 ∷ pos 2 ∷ []) xs
