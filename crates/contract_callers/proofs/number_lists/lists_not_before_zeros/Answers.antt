use Rattle.scop_syntax.proofs.Common.{[], ◌∷◌, arith, inl, inr, pos, refl, ints}
use Rattle.contract_callers.proofs.number_lists.lists_not_before_zeros.Goals as goal

pub returns-clause-sums : goal.returns-clause-sums
returns-clause-sums c = λ xs.
    c.lexicographically_not_negative_lists.ensures.sums (pos 0 ∷ pos 2 ∷ []) xs
    (inr (refl, inl (omega (arith, ints))))

pub returns-clause-multiples : goal.returns-clause-multiples
returns-clause-multiples c = λ xs.
    c.lexicographically_not_negative_lists.ensures.multiples (pos 3) xs (omega (arith, ints))

pub returns-clause-products : goal.returns-clause-products
returns-clause-products c = λ x y.
    c.lexicographically_not_negative_lists.ensures.products (pos 2 ∷ pos 3 ∷ []) (x ∷ y ∷ [])
    (omega (arith, ints), (omega (arith, ints), tt)) refl
