use Rattle.scop_syntax.proofs.Common.{◌≡◌, ◌∷◌, [], ◌≤ℤ◌, pos, length, All-cons, All-nil}
use Rattle.whole_numbers.specs.Affine.{value_of}
use Rattle.text_callers.proofs.certificates.refuted_rows_hold_nowhere.Goals as goal

pub returns : goal.returns
returns c row steps x one lines run holds =
    c.derivations_leave_no_point.ensures 1 0 (row ∷ []) steps (x ∷ [])
    (All-cons (λ f. length f.coefficients ≡ 1) row [] one (All-nil (λ f. length f.coefficients ≡ 1))) lines run
    (All-cons (λ f. pos 0 ≤ℤ value_of f (x ∷ [])) row [] holds (All-nil (λ f. pos 0 ≤ℤ value_of f (x ∷ []))))
