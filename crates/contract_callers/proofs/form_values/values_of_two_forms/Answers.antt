use Rattle.scop_syntax.proofs.Common.{[], ◌∷◌, arith, pos, negsuc, form_of}
use Rattle.contract_callers.proofs.form_values.values_of_two_forms.Goals as goal

pub returns-clause-sum : goal.returns-clause-sum
returns-clause-sum c = λ x y.
    c.value_of_affine_forms.ensures.sum (form_of (pos 2 ∷ negsuc 0 ∷ []) (pos 3))
    (form_of (pos 1 ∷ pos 4 ∷ []) (negsuc 0)) (x ∷ y ∷ [])

pub returns-clause-multiple : goal.returns-clause-multiple
returns-clause-multiple c = λ x y.
    c.value_of_affine_forms.ensures.multiple (negsuc 1) (form_of (pos 2 ∷ negsuc 0 ∷ []) (pos 3)) (x ∷ y ∷ [])

pub returns-clause-substituted : goal.returns-clause-substituted
returns-clause-substituted c = λ x y.
    c.value_of_affine_forms.ensures.substituted 1 (form_of (pos 2 ∷ negsuc 0 ∷ []) (pos 3))
    (form_of (pos 1 ∷ pos 4 ∷ []) (negsuc 0)) (x ∷ y ∷ []) (omega arith) (omega arith)

pub returns-clause-composed : goal.returns-clause-composed
returns-clause-composed c = λ z.
    c.value_of_affine_forms.ensures.composed (form_of (pos 2 ∷ negsuc 0 ∷ []) (pos 3))
    (form_of (pos 1 ∷ []) (pos 1) ∷ form_of (pos 3 ∷ []) (pos 0) ∷ []) 1 (z ∷ [])

pub returns-clause-complement : goal.returns-clause-complement
returns-clause-complement c = λ x y.
    c.value_of_affine_forms.ensures.complement (form_of (pos 2 ∷ negsuc 0 ∷ []) (pos 3)) (x ∷ y ∷ [])
