use Rattle.scop_syntax.proofs.Common.{◌≡◌, [], ◌∷◌, refl, inl, inr, pos, ◌^◌, ◌-◌}
use Rattle.wide_math.specs.Checked.{wide}
use Rattle.wide_math.specs.declared.Op.TheVariants.{Add, Mul}
use Rattle.wide_math.specs.declared.Wide.{Wide}
use Rattle.affine_forms.specs.Stops.{StopsFrom}
use Rattle.contract_callers.proofs.forms.first_wide_numbers.Goals as goal

-- a run that stops at its second sum stops nowhere else
second : (w : Wide) → StopsFrom (pos 0) (pos 1 ∷ pos 1 ∷ []) (pos (2 ^ 127 - 1) ∷ pos 1 ∷ []) w
    → w ≡ wide Add (pos (2 ^ 127 - 1)) (pos 1)
second w (inl h) = absurd cc
second w (inr (inl h)) = absurd cc
second w (inr (inr (p, q, inl h))) = absurd cc
second w (inr (inr (p, q, inr (inl h)))) = h.2
second w (inr (inr (p, q, inr (inr h)))) = absurd cc

-- small numbers stop nowhere
small : (w : Wide) → StopsFrom (pos 0) (pos 1 ∷ pos 2 ∷ []) (pos 3 ∷ pos 4 ∷ []) w → ⊥
small w (inl h) = absurd cc
small w (inr (inl h)) = absurd cc
small w (inr (inr (p, q, inl h))) = absurd cc
small w (inr (inr (p, q, inr (inl h)))) = absurd cc
small w (inr (inr (p, q, inr (inr h)))) = h.2

pub returns-clause-product : goal.returns-clause-product
returns-clause-product c =
    (c.dot_products_stop_at_the_first_wide_number.ensures (pos 1 ∷ pos (2 ^ 64) ∷ []) (pos 5 ∷ pos (2 ^ 64) ∷ [])
    (wide Mul (pos (2 ^ 64)) (pos (2 ^ 64)))).1 (inr (inr (refl, refl, inl (refl, refl))))

pub returns-clause-sum : goal.returns-clause-sum
returns-clause-sum c =
    (c.dot_products_stop_at_the_first_wide_number.ensures (pos 1 ∷ pos 1 ∷ []) (pos (2 ^ 127 - 1) ∷ pos 1 ∷ [])
    (wide Add (pos (2 ^ 127 - 1)) (pos 1))).1 (inr (inr (refl, refl, inr (inl (refl, refl, refl)))))

pub returns-clause-only : goal.returns-clause-only
returns-clause-only c = λ w is.
    second w ((c.dot_products_stop_at_the_first_wide_number.ensures (pos 1 ∷ pos 1 ∷ [])
    (pos (2 ^ 127 - 1) ∷ pos 1 ∷ []) w).0 is)

pub returns-clause-none : goal.returns-clause-none
returns-clause-none c = λ w is.
    small w ((c.dot_products_stop_at_the_first_wide_number.ensures (pos 1 ∷ pos 2 ∷ []) (pos 3 ∷ pos 4 ∷ []) w).0 is)
