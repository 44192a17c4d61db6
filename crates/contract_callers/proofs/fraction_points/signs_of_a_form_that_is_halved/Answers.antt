use Rattle.scop_syntax.proofs.Common.{[], ◌∷◌, pos, negsuc, form_of}
use Rattle.whole_numbers.specs.Content.{gcd_of, lowest_of_form}
use Rattle.contract_callers.proofs.fraction_points.signs_of_a_form_that_is_halved.Goals as goal

pub returns : goal.returns
unfolding lowest_of_form gcd_of
returns c = λ d x y.
    c.lowest_terms_keep_each_sign.ensures (form_of (pos 4 ∷ negsuc 5 ∷ []) (pos 2)) d (x ∷ y ∷ [])
