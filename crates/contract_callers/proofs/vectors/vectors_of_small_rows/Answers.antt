use Rattle.scop_syntax.proofs.Common.{[], ◌∷◌, pos, negsuc}
use Rattle.whole_numbers.specs.Content.{gcd_of}
use Rattle.contract_callers.proofs.vectors.vectors_of_small_rows.Goals as goal

pub returns-clause-are : goal.returns-clause-are
unfolding gcd_of
returns-clause-are c =
    c.kernel_vectors_are_those_of_the_reduced_echelon_form.ensures.are 2 ((pos 2 ∷ negsuc 3 ∷ []) ∷ [])

pub returns-clause-unique : goal.returns-clause-unique
unfolding gcd_of
returns-clause-unique c = λ vectors are.
    let law = c.kernel_vectors_are_those_of_the_reduced_echelon_form.ensures in
    law.unique 2 ((pos 2 ∷ negsuc 3 ∷ []) ∷ []) vectors ((pos 2 ∷ pos 1 ∷ []) ∷ []) are
    (law.are 2 ((pos 2 ∷ negsuc 3 ∷ []) ∷ []))

pub returns-clause-more : goal.returns-clause-more
unfolding gcd_of
returns-clause-more c =
    let law = c.kernel_vectors_are_those_of_the_reduced_echelon_form.ensures in
    law.more 3 ((pos 1 ∷ pos 0 ∷ negsuc 0 ∷ []) ∷ []) (pos 0 ∷ pos 1 ∷ negsuc 0 ∷ [])
    ((pos 0 ∷ pos 1 ∷ pos 0 ∷ []) ∷ (pos 1 ∷ pos 0 ∷ pos 1 ∷ []) ∷ [])
    (law.are 3 ((pos 1 ∷ pos 0 ∷ negsuc 0 ∷ []) ∷ []))
