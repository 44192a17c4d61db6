-- The forms of the old loops within a loop that stays: each with one loop more round it.
use Rattle.tree_simplification.proofs.Common.{◌≡◌, ℕ, ◌+◌, ℤ, pos, List, [], ◌∷◌, ◌++◌, length, map, get_or, ap, ap₂}
use Rattle.tree_simplification.proofs.Common.{subst, ◌∙◌, refl, arith, All, get_or-append_seam, map-append, All-nil}
use Rattle.tree_simplification.proofs.Common.{All-cons, All-head, All-tail, Affine, value_of, values_of, widened}
use Rattle.tree_simplification.proofs.Common.{length-widened, append_assoc, variable, IsOver, inside}
use Rattle.iteration_domains.proofs.RowLaws.{value_of-variable}
use Rattle.tree_simplification.proofs.RowValues.{value_widened}

-- the forms of the old loops, with a loop more round them
pub all_widened : (k : ℕ) (loops : List Affine) (outer params : List ℤ) (x : ℤ) → length outer ≡ k
    → values_of (map (widened k) loops) ((outer ++ x ∷ []) ++ params) ≡ values_of loops (outer ++ params)
all_widened k [] outer params x o = refl
all_widened k (f ∷ loops) outer params x o =
    ap₂ (λ (z : ℤ) (zs : List ℤ). z ∷ zs) (value_widened k f outer params x o) (all_widened k loops outer params x o)

-- they give the values round the loop, and then its own
pub inside_values : (m k : ℕ) (loops : List Affine) (outer params : List ℤ) (x : ℤ) → length outer ≡ k
    → values_of (inside m k loops) ((outer ++ x ∷ []) ++ params) ≡ values_of loops (outer ++ params) ++ x ∷ []
inside_values m k loops outer params x o =
    let point = (outer ++ x ∷ []) ++ params in
    let own = variable (k + 1 + m) k in
    let at : get_or point k (pos 0) ≡ x =
    ap (λ (xs : List ℤ). get_or xs k (pos 0)) (append_assoc outer (x ∷ []) params)
    ∙ subst (λ i. get_or (outer ++ x ∷ params) i (pos 0) ≡ x) o (get_or-append_seam outer x params (pos 0)) in
    map-append (λ f. value_of f point) (map (widened k) loops) (own ∷ [])
    ∙ ap₂ (λ (us : List ℤ) (z : ℤ). us ++ z ∷ []) (all_widened k loops outer params x o)
    (value_of-variable (k + 1 + m) k point (omega arith) ∙ at)

widened_sized : (n k : ℕ) (loops : List Affine) → All (IsOver n) loops → All (IsOver (n + 1)) (map (widened k) loops)
widened_sized n k [] sized = All-nil (IsOver (n + 1))
widened_sized n k (f ∷ loops) sized =
    let own = All-head (IsOver n) f loops sized in
    let l = length-widened k f.coefficients in
    All-cons (IsOver (n + 1)) (widened k f) (map (widened k) loops) (omega (arith, own, l))
    (widened_sized n k loops (All-tail (IsOver n) f loops sized))

-- and are over one loop more
pub block_sized : (m k : ℕ) (loops : List Affine) → All (IsOver (k + m)) loops
    → All (IsOver (k + 1 + m)) (map (widened k) loops)
block_sized m k loops sized =
    let e : (k + m) + 1 ≡ k + 1 + m = omega arith in
    subst (λ i. All (IsOver i) (map (widened k) loops)) e (widened_sized (k + m) k loops sized)
