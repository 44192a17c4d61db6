use Rattle.scop_syntax.proofs.Common.{[], ◌∷◌, arith, pos, negsuc, form_of}
use Rattle.whole_numbers.specs.Content.{gcd_of, lowest_of_form}
use Rattle.contract_callers.proofs.divisions.lowest_terms_of_a_form.Goals as goal

pub returns-clause-parts : goal.returns-clause-parts
unfolding gcd_of lowest_of_form
returns-clause-parts c = c.lowest_terms_of_forms.ensures.parts (form_of (pos 12 ∷ negsuc 17 ∷ []) (pos 30))

pub returns-clause-multiple : goal.returns-clause-multiple
unfolding gcd_of lowest_of_form
returns-clause-multiple c = c.lowest_terms_of_forms.ensures.multiple 2 (form_of (pos 12 ∷ negsuc 17 ∷ []) (pos 30))

pub returns-clause-content : goal.returns-clause-content
unfolding gcd_of lowest_of_form
returns-clause-content c =
    c.lowest_terms_of_forms.ensures.content (form_of (pos 12 ∷ negsuc 17 ∷ []) (pos 30)) (omega arith)

pub returns-clause-stay : goal.returns-clause-stay
unfolding gcd_of lowest_of_form
returns-clause-stay c = c.lowest_terms_of_forms.ensures.stay (form_of (pos 2 ∷ negsuc 2 ∷ []) (pos 5)) (omega arith)
