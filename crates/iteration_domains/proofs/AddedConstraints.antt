-- The points of a system with one constraint more.
use Rattle.scop_syntax.proofs.Common.{◌≡◌, ℕ, ℤ, pos, List, [], ◌∷◌, ◌++◌, length, subst, sym, ◌≤ℤ◌, All, ◌↔◌}
use Rattle.scop_syntax.proofs.Common.{take-append_seam, drop-append_seam, All-nil, All-cons, All-head, All-append}
use Rattle.scop_syntax.proofs.Common.{All-take, All-drop, Affine, value_of}
use Rattle.integer_sets.specs.Parts.{variables_of}
use Rattle.integer_sets.specs.Constraints.{Constraints, IsSized, system_of}
use Rattle.integer_sets.specs.Points.{Satisfies}

-- all have it where those in front and the last have
all_behind : {X : Type 0} (P : X → Type 0) (xs : List X) (x : X) → All P (xs ++ x ∷ []) ↔ (All P xs × P x)
all_behind {X = X} P xs x = (
  λ all. (
    subst (λ (ys : List X). All P ys) (take-append_seam xs (x ∷ [])) (All-take P (length xs) (xs ++ x ∷ []) all),
    All-head P x [] (subst (λ (ys : List X). All P ys) (drop-append_seam xs (x ∷ []))
        (All-drop P (length xs) (xs ++ x ∷ []) all)),
  ),
  λ both. All-append P xs (x ∷ []) both.0 (All-cons P x [] both.1 (All-nil P)),
)

-- with an equality more
pub equality_points : (s t : Constraints) (f : Affine)
    → t ≡ system_of s.dimensions s.parameters (s.equalities ++ f ∷ []) s.rows → (point : List ℤ)
    → Satisfies t point ↔ (Satisfies s point × (value_of f point ≡ pos 0))
equality_points s t f e point =
    let all = all_behind (λ g. value_of g point ≡ pos 0) s.equalities f in
    subst (λ (u : Constraints). Satisfies u point ↔ (Satisfies s point × (value_of f point ≡ pos 0))) (sym e) (
      λ h. (((all.0 h.0).0, h.1), (all.0 h.0).1),
      λ h. (all.1 (h.0.0, h.1), h.0.1),
    )

-- with a row more
pub row_points : (s t : Constraints) (f : Affine)
    → t ≡ system_of s.dimensions s.parameters s.equalities (s.rows ++ f ∷ []) → (point : List ℤ)
    → Satisfies t point ↔ (Satisfies s point × (pos 0 ≤ℤ value_of f point))
row_points s t f e point =
    let all = all_behind (λ g. pos 0 ≤ℤ value_of g point) s.rows f in
    subst (λ (u : Constraints). Satisfies u point ↔ (Satisfies s point × (pos 0 ≤ℤ value_of f point))) (sym e) (
      λ h. ((h.0, (all.0 h.1).0), (all.0 h.1).1),
      λ h. (h.0.0, all.1 (h.0.1, h.1)),
    )

-- a constraint more that speaks of as many variables as the others
sized_behind : (n : ℕ) (fs new : List Affine) (f : Affine) → All (λ g. variables_of g ≡ n) fs → new ≡ fs ++ f ∷ []
    → variables_of f ≡ n → All (λ g. variables_of g ≡ n) new
sized_behind n fs new f all e one =
    subst (λ (gs : List Affine). All (λ g. variables_of g ≡ n) gs) (sym e)
    ((all_behind (λ g. variables_of g ≡ n) fs f).1 (all, one))

-- the same of an equality, and of a row
pub equality_sized : (n : ℕ) (equalities new rows : List Affine) (f : Affine) → IsSized n equalities rows
    → new ≡ equalities ++ f ∷ [] → variables_of f ≡ n → IsSized n new rows
equality_sized n equalities new rows f sized e one = record {
  equalities_sized = sized_behind n equalities new f sized.equalities_sized e one;
  rows_sized = sized.rows_sized;
}

pub row_sized : (n : ℕ) (equalities rows new : List Affine) (f : Affine) → IsSized n equalities rows
    → new ≡ rows ++ f ∷ [] → variables_of f ≡ n → IsSized n equalities new
row_sized n equalities rows new f sized e one = record {
  equalities_sized = sized.equalities_sized;
  rows_sized = sized_behind n rows new f sized.rows_sized e one;
}
