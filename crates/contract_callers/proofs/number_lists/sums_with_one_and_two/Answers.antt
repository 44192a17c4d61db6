use Rattle.scop_syntax.proofs.Common.{[], ◌∷◌, arith, inl, inr, pos, refl, ints}
use Rattle.contract_callers.proofs.number_lists.sums_with_one_and_two.Goals as goal

pub returns-clause-sums : goal.returns-clause-sums
returns-clause-sums c = λ x y most.
    c.lexicographic_order_of_sums.ensures.sums (pos 1 ∷ pos 2 ∷ []) (pos 1 ∷ pos 5 ∷ []) (x ∷ y ∷ [])
    (pos 4 ∷ pos 0 ∷ []) refl refl (inr (refl, inl (omega (arith, ints)))) most

pub returns-clause-more : goal.returns-clause-more
returns-clause-more c = λ x y. c.lexicographic_order_of_sums.ensures.more (pos 1 ∷ pos 2 ∷ []) (x ∷ y ∷ []) refl
