use Rattle.scop_syntax.proofs.Common.{◌≡◌, ◌≤◌, length, pos, negsuc, [], ◌∷◌, refl, arith, All-from_recursion, form_of}
use Rattle.contract_callers.proofs.combined_rows.multipliers_of_one_row.Goals as goal

pub returns : goal.returns
returns c = λ k l.
    c.farkas_is_coefficient_matching.ensures ((pos 1 ∷ pos 0 ∷ []) ∷ []) (pos 0 ∷ negsuc 0 ∷ [])
    (form_of (pos 1 ∷ []) (negsuc 0) ∷ []) (k ∷ l ∷ [])
    (All-from_recursion (λ l. length l ≡ 2) ((pos 1 ∷ pos 0 ∷ []) ∷ []) (refl, tt)) refl
    (All-from_recursion (λ g. length g.coefficients ≤ 1) (form_of (pos 1 ∷ []) (negsuc 0) ∷ []) (omega arith, tt))
