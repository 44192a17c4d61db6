use Rattle.scop_syntax.proofs.Common.{[], ◌∷◌, pos, negsuc}
use Rattle.whole_numbers.specs.Content.{gcd_of}
use Rattle.contract_callers.proofs.divisions.content_of_four_numbers.Goals as goal

pub returns-clause-divides : goal.returns-clause-divides
unfolding gcd_of
returns-clause-divides c =
    c.content_is_the_greatest_common_divisor.ensures.divides (pos 12 ∷ negsuc 17 ∷ pos 0 ∷ pos 30 ∷ [])

pub returns-clause-greatest : goal.returns-clause-greatest
unfolding gcd_of
returns-clause-greatest c = λ d all.
    c.content_is_the_greatest_common_divisor.ensures.greatest d (pos 12 ∷ negsuc 17 ∷ pos 0 ∷ pos 30 ∷ []) all

pub returns-clause-multiples : goal.returns-clause-multiples
unfolding gcd_of
returns-clause-multiples c =
    c.content_is_the_greatest_common_divisor.ensures.multiples 2 (pos 12 ∷ negsuc 17 ∷ pos 0 ∷ pos 30 ∷ [])
