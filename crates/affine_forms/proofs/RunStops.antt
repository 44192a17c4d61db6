-- Where a dot product's run stops.
use Rattle.std.proofs.Common.{◌≡◌, ℤ, ◌+ℤ◌, ◌*ℤ◌, Bool, true, false, IsTrue, IsFalse, List, [], ◌∷◌, refl, sym, ap, ◌∙◌}
use Rattle.std.proofs.Common.{inl, inr, ◌↔◌, Result, Err}
use Rattle.wide_math.specs.Fits.{fits}
use Rattle.wide_math.specs.declared.Op.TheVariants.{Add, Mul}
use Rattle.wide_math.specs.declared.Wide.{Wide}
use Rattle.wide_math.specs.Checked.{wide}
use Rattle.wide_math.proofs.Steps.{checked-fits, checked-wide}
use Rattle.affine_forms.specs.Runs.{multiply_add_run, dot_run_from}
use Rattle.affine_forms.specs.Stops.{StopsFrom}

-- a run of a step and then the rest, by what fits
step_fits : (sum x y : ℤ) (xs ys : List ℤ) → IsTrue (fits (x *ℤ y)) → IsTrue (fits (sum +ℤ (x *ℤ y)))
    → dot_run_from sum (x ∷ xs) (y ∷ ys) ≡ dot_run_from (sum +ℤ (x *ℤ y)) xs ys
unfolding multiply_add_run
step_fits sum x y xs ys p q =
    rw (checked-fits Mul x y (x *ℤ y) p, checked-fits Add sum (x *ℤ y) (sum +ℤ (x *ℤ y)) q) refl

step_adds : (sum x y : ℤ) (xs ys : List ℤ) → IsTrue (fits (x *ℤ y)) → IsFalse (fits (sum +ℤ (x *ℤ y)))
    → dot_run_from sum (x ∷ xs) (y ∷ ys) ≡ Err (wide Add sum (x *ℤ y))
unfolding multiply_add_run
step_adds sum x y xs ys p q =
    rw (checked-fits Mul x y (x *ℤ y) p, checked-wide Add sum (x *ℤ y) (sum +ℤ (x *ℤ y)) q) refl

step_multiplies : (sum x y : ℤ) (xs ys : List ℤ) → IsFalse (fits (x *ℤ y))
    → dot_run_from sum (x ∷ xs) (y ∷ ys) ≡ Err (wide Mul x y)
unfolding multiply_add_run
step_multiplies sum x y xs ys p = rw (checked-wide Mul x y (x *ℤ y) p) refl

same_error : (v w : Wide) → ◌≡◌ {A = Result ℤ Wide} (Err v) (Err w) → w ≡ v
same_error v w h = cc

pub dot_run-stops : (sum : ℤ) (xs ys : List ℤ) (w : Wide) → (dot_run_from sum xs ys ≡ Err w) ↔ StopsFrom sum xs ys w
dot_run-stops sum [] ys w = (λ h. absurd cc, λ h. absurd h)
dot_run-stops sum (x ∷ xs) [] w = (λ h. absurd cc, λ h. absurd h)
dot_run-stops sum (x ∷ xs) (y ∷ ys) w = (
  shown (fits (x *ℤ y)) (fits (sum +ℤ (x *ℤ y))) refl refl (dot_run-stops (sum +ℤ (x *ℤ y)) xs ys w).0,
  kept (dot_run-stops (sum +ℤ (x *ℤ y)) xs ys w).1,
)
  where
    shown : (b d : Bool) → fits (x *ℤ y) ≡ b → fits (sum +ℤ (x *ℤ y)) ≡ d
        → (dot_run_from (sum +ℤ (x *ℤ y)) xs ys ≡ Err w → StopsFrom (sum +ℤ (x *ℤ y)) xs ys w)
        → dot_run_from sum (x ∷ xs) (y ∷ ys) ≡ Err w → StopsFrom sum (x ∷ xs) (y ∷ ys) w
    shown false d p q more h = inl (p, same_error (wide Mul x y) w (sym (step_multiplies sum x y xs ys p) ∙ h))
    shown true false p q more h =
        inr (inl (p, q, same_error (wide Add sum (x *ℤ y)) w (sym (step_adds sum x y xs ys p q) ∙ h)))
    shown true true p q more h = inr (inr (p, q, more (sym (step_fits sum x y xs ys p q) ∙ h)))

    kept : (StopsFrom (sum +ℤ (x *ℤ y)) xs ys w → dot_run_from (sum +ℤ (x *ℤ y)) xs ys ≡ Err w)
        → StopsFrom sum (x ∷ xs) (y ∷ ys) w → dot_run_from sum (x ∷ xs) (y ∷ ys) ≡ Err w
    kept more (inl h) = step_multiplies sum x y xs ys h.0 ∙ ap (λ (v : Wide). Err v) (sym h.1)
    kept more (inr (inl h)) = step_adds sum x y xs ys h.0 h.1 ∙ ap (λ (v : Wide). Err v) (sym h.2)
    kept more (inr (inr h)) = step_fits sum x y xs ys h.0 h.1 ∙ more h.2
