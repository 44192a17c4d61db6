-- From a set down to its first dimensions.
use Rattle.scop_syntax.proofs.Common.{◌≡◌, ℕ, suc, ◌<◌, ℤ, pos, List, [], ◌∷◌, ◌++◌, length, ap, subst, sym, refl, ◌∙◌}
use Rattle.scop_syntax.proofs.Common.{arith}
use Rattle.fm_projection.proofs.WholePoints.{one_more}
use Rattle.integer_sets.specs.Scanned.{Scanned}
use Rattle.plain_scan.specs.Sets.{IsKeyOf}
use Rattle.integer_sets.specs.Constraints.{Constraints}
use Rattle.integer_sets.specs.Points.{Satisfies}
use Rattle.plain_scan.specs.steps.Shadows.{IsShadow, Follow}
use Rattle.plain_scan.proofs.Nodes.{length_end}

-- the set itself
whole_same : (xs ys r : List ℤ) (y : ℤ) → length xs ≡ length ys → xs ++ r ≡ ys ++ y ∷ [] → xs ≡ ys
whole_same [] [] r y l e = refl
whole_same [] (b ∷ ys) r y l e = absurd (omega arith)
whole_same (a ∷ xs) [] r y l e = absurd (omega arith)
whole_same (a ∷ xs) (b ∷ ys) r y l e =
    let t : xs ++ r ≡ ys ++ y ∷ [] = cc in
    let h : a ≡ b = cc in
    cons_same a b xs ys h (whole_same xs ys r y (omega arith) t)
  where
    cons_same : (a b : ℤ) (xs ys : List ℤ) → a ≡ b → xs ≡ ys → (a ∷ xs) ≡ (b ∷ ys)
    cons_same a b xs ys h k = cc

pub whole_shadow : (s : Scanned) → IsShadow s.system.dimensions s s.system
whole_shadow s params outer r l k =
    let e = whole_same outer k.values r (pos s.statement) (l ∙ sym k.size) k.is in
    subst (λ xs. Satisfies s.system (xs ++ params)) (sym e) k.inside

-- one dimension less
pub shadow_less : (m : ℕ) (s : Scanned) (t u : Constraints) → m < s.system.dimensions → IsShadow (suc m) s t
    → Follow m t u → IsShadow m s u
shadow_less m s t u less shadow follow params outer [] l k =
    absurd (too_short outer k.values (pos s.statement) k.is (let d = k.size in omega (arith, l, d, less)))
  where
    length_nil : (xs : List ℤ) → length (xs ++ []) ≡ length xs
    length_nil [] = refl
    length_nil (x ∷ xs) = ap suc (length_nil xs)

    too_short : (xs ys : List ℤ) (y : ℤ) → xs ++ [] ≡ ys ++ y ∷ [] → length xs < length ys → ⊥
    too_short xs ys y e l = let a = ap length e in let b = length_end ys y in let c = length_nil xs in
        omega (arith, a, b, c, l)
shadow_less m s t u less shadow follow params outer (x ∷ r) l k =
    let n = length_end outer x ∙ ap suc l in
    let h = shadow params (outer ++ x ∷ []) r n (subst (IsKeyOf params s) (sym (one_more outer x r)) k) in
    follow outer x params l (subst (Satisfies t) (one_more outer x params) h)
