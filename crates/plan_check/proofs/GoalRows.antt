-- The rows of a goal: over its variables, and not negative at its points.
use Rattle.scop_syntax.proofs.Common.{◌≡◌, ℕ, ℤ, pos, negsuc, ◌+ℤ◌, ◌≤ℤ◌, List, [], ◌∷◌, ◌++◌, All, ◌∙◌, zero, suc}
use Rattle.scop_syntax.proofs.Common.{◌-ℤ◌, neg_ℤ, refl, sym, ap, ap₂, arith, multiples, zeros, mul_zero_right}
use Rattle.scop_syntax.proofs.Common.{multiples-append, multiples-multiples, multiples-one, ints, All-nil, All-cons}
use Rattle.scop_syntax.proofs.Common.{All-append, All-head, All-tail, Affine, value_of, multiple_of_form, form_of}
use Rattle.scop_syntax.proofs.Common.{complement, length-multiples, value_of-multiple}
use Rattle.affine_forms.specs.Parts.{variables_of}
use Rattle.integer_sets.specs.Points.{Satisfies}
use Rattle.iteration_domains.specs.Dependence.{Dependence}
use Rattle.plan_check.specs.Goals.{apart, both_ways, rows_of_goal}

pub both_sized : (n : ℕ) (es : List Affine) → All (λ f. variables_of f ≡ n) es → All (λ f. variables_of f ≡ n) (both_ways es)
both_sized n [] h = All-nil (λ f. variables_of f ≡ n)
both_sized n (e ∷ es) h =
    let here = All-head (λ f. variables_of f ≡ n) e es h in
    All-cons (λ f. variables_of f ≡ n) e (multiple_of_form (negsuc 0) e ∷ both_ways es) here
    (All-cons (λ f. variables_of f ≡ n) (multiple_of_form (negsuc 0) e) (both_ways es)
    (length-multiples (negsuc 0) e.coefficients ∙ here)
    (both_sized n es (All-tail (λ f. variables_of f ≡ n) e es h)))

both_met : (es : List Affine) (point : List ℤ) → All (λ f. value_of f point ≡ pos 0) es
    → All (λ f. pos 0 ≤ℤ value_of f point) (both_ways es)
both_met [] point h = All-nil (λ f. pos 0 ≤ℤ value_of f point)
both_met (e ∷ es) point h =
    let here = All-head (λ f. value_of f point ≡ pos 0) e es h in
    let m = value_of-multiple (negsuc 0) e point in
    All-cons (λ f. pos 0 ≤ℤ value_of f point) e (multiple_of_form (negsuc 0) e ∷ both_ways es) (omega (arith, ints))
    (All-cons (λ f. pos 0 ≤ℤ value_of f point) (multiple_of_form (negsuc 0) e) (both_ways es) (omega (arith, ints))
    (both_met es point (All-tail (λ f. value_of f point ≡ pos 0) e es h)))

pub rows_met : (d : Dependence) (point : List ℤ) → Satisfies d.system point
    → All (λ f. pos 0 ≤ℤ value_of f point) (rows_of_goal d)
rows_met d point h =
    All-append (λ f. pos 0 ≤ℤ value_of f point) (both_ways d.system.equalities) d.system.rows
    (both_met d.system.equalities point h.0) h.1

-- 0 times anything
zeros_kept : (k : ℤ) (n : ℕ) → multiples k (zeros n) ≡ zeros n
zeros_kept k zero = refl
zeros_kept k (suc n) = ap₂ (λ (z : ℤ) (zs : List ℤ). z ∷ zs) (mul_zero_right k) (zeros_kept k n)

-- that one form is below another
pub fallen_is : (m : ℕ) (f g : Affine)
    → form_of (f.coefficients ++ (multiples (negsuc 0) g.coefficients ++ zeros m)) ((f.constant -ℤ g.constant) +ℤ negsuc 0)
    ≡ complement (apart m f g)
fallen_is m f g =
    let k = negsuc 0 in
    let rest = g.coefficients ++ zeros m in
    let behind : multiples k rest ≡ multiples k g.coefficients ++ zeros m
    = multiples-append k g.coefficients (zeros m)
    ∙ ap (λ (zs : List ℤ). multiples k g.coefficients ++ zs) (zeros_kept k m) in
    let front : multiples k (multiples k f.coefficients) ≡ f.coefficients
    = multiples-multiples k k f.coefficients ∙ multiples-one f.coefficients in
    let all = multiples-append k (multiples k f.coefficients) rest
    ∙ ap₂ (λ (xs ys : List ℤ). xs ++ ys) front behind in
    let constant : (f.constant -ℤ g.constant) +ℤ negsuc 0 ≡ neg_ℤ (g.constant -ℤ f.constant) -ℤ pos 1
    = omega (arith, ints) in
    ap₂ form_of (sym all) constant
