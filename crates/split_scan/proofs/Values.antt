-- Values of forms with a column more, and of rows at a point of a loop.
use Rattle.scop_syntax.proofs.Common.{◌≡◌, ℕ, ◌+◌, ℤ, List, [], ◌∷◌, ◌++◌, length, map, sym, subst, All, arith}
use Rattle.scop_syntax.proofs.Common.{length-append, All-cons, All-head, All-nil, All-tail, Affine, widened}
use Rattle.scop_syntax.proofs.Common.{length-widened}
use Rattle.fm_projection.proofs.WholePoints.{one_more}
use Rattle.affine_forms.specs.Parts.{variables_of}
use Rattle.plain_scan.specs.steps.Serving.{AllAtLeast}

-- the outer values and the loop's value as one list
pub one_size : (outer : List ℤ) (x : ℤ) (m : ℕ) → length outer ≡ m → length (outer ++ x ∷ []) ≡ m + 1
one_size outer x m e = omega (arith, length-append outer (x ∷ []), e)

pub one_point : (fs : List Affine) (outer : List ℤ) (x : ℤ) (params : List ℤ) → AllAtLeast fs (outer ++ x ∷ params)
    → AllAtLeast fs ((outer ++ x ∷ []) ++ params)
one_point fs outer x params h = subst (AllAtLeast fs) (sym (one_more outer x params)) h

-- rows over one variable more
pub widened_sized : (m n : ℕ) (fs : List Affine) → All (λ f. variables_of f ≡ n) fs
    → All (λ f. variables_of f ≡ n + 1) (map (widened m) fs)
widened_sized m n [] h = All-nil (λ f. variables_of f ≡ n + 1)
widened_sized m n (f ∷ fs) h =
    let s = All-head (λ g. variables_of g ≡ n) f fs h in
    let o = length-widened m f.coefficients in
    All-cons (λ g. variables_of g ≡ n + 1) (widened m f) (map (widened m) fs) (omega (arith, s, o))
    (widened_sized m n fs (All-tail (λ g. variables_of g ≡ n) f fs h))
