use Rattle.scop_syntax.proofs.Common.{[], ◌∷◌, arith, pos, negsuc, ints, form_of}
use Rattle.contract_callers.proofs.form_values.three_times_a_form.Goals as goal

pub returns : goal.returns
returns c = λ x y.
    c.positive_multiples_keep_equalities_and_rows.ensures (pos 3) (form_of (pos 2 ∷ negsuc 0 ∷ []) (pos 3))
    (x ∷ y ∷ []) (omega (arith, ints))
