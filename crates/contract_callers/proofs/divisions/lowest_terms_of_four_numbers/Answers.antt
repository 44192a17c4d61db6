use Rattle.scop_syntax.proofs.Common.{[], ◌∷◌, arith, pos, negsuc}
use Rattle.whole_numbers.specs.Content.{gcd_of}
use Rattle.contract_callers.proofs.divisions.lowest_terms_of_four_numbers.Goals as goal

pub returns-clause-parts : goal.returns-clause-parts
unfolding gcd_of
returns-clause-parts c = c.lowest_terms_of_lists.ensures.parts (pos 12 ∷ negsuc 17 ∷ pos 0 ∷ pos 30 ∷ [])

pub returns-clause-multiples : goal.returns-clause-multiples
unfolding gcd_of
returns-clause-multiples c = c.lowest_terms_of_lists.ensures.multiples 2 (pos 12 ∷ negsuc 17 ∷ pos 0 ∷ pos 30 ∷ [])

pub returns-clause-content : goal.returns-clause-content
unfolding gcd_of
returns-clause-content c =
    c.lowest_terms_of_lists.ensures.content (pos 12 ∷ negsuc 17 ∷ pos 0 ∷ pos 30 ∷ []) (omega arith)

pub returns-clause-stay : goal.returns-clause-stay
unfolding gcd_of
returns-clause-stay c =
    c.lowest_terms_of_lists.ensures.stay (pos 2 ∷ negsuc 2 ∷ pos 0 ∷ pos 5 ∷ []) (omega arith)
