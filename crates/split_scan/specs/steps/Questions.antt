-- Rows that no whole point satisfies, and a node's points.
use Rattle.std.specs.Prelude.{◌≡◌, ◌≢◌, ℕ, ℤ, pos, List, ◌∷◌, ◌++◌, length, All, ◌≤ℤ◌}
use Rattle.whole_numbers.specs.Affine.{Affine}
use Rattle.whole_numbers.specs.Lists.{NotNegative}
use Rattle.affine_forms.specs.Parts.{variables_of}
use Rattle.fractions.specs.Elimination.{coefficient_of}
use Rattle.scop_syntax.specs.Limits.{AreInRange}
use Rattle.plain_scan.specs.steps.Serving.{AllAtLeast}
use Rattle.plain_scan.specs.Between.{HasSmallNumbers}

-- no point of d whole numbers from 0 on satisfies the rows, for parameters in 0..=65536
abbrev pub HasNone : ℕ → List Affine → Type 0
HasNone d fs = (params point : List ℤ) → AreInRange params → length point ≡ d → NotNegative point
    → AllAtLeast fs (point ++ params) → ⊥

-- where the rows hold, the d values in front of the parameters are not negative
abbrev pub AreNatural : ℕ → List Affine → Type 0
AreNatural d fs = (params point : List ℤ) → AreInRange params → length point ≡ d → AllAtLeast fs (point ++ params)
    → All (λ x. pos 0 ≤ℤ x) point

-- m outer values and a loop's value at which the rows of a node hold
pub record IsIn (m : ℕ) (inside : List Affine) (params outer : List ℤ) (x : ℤ) : Type 0 where
  pub parameters : AreInRange params
  pub size : length outer ≡ m
  pub hold : AllAtLeast inside (outer ++ x ∷ params)

-- the rows hold at none of them
abbrev pub IsVoid : ℕ → List Affine → List Affine → Type 0
IsVoid m inside cuts = (params outer : List ℤ) (x : ℤ) → IsIn m inside params outer x
    → AllAtLeast cuts (outer ++ x ∷ params) → ⊥

-- a row that bounds the variable at place m: over n variables, of small numbers
pub record IsCut (m n : ℕ) (f : Affine) : Type 0 where
  pub sized : variables_of f ≡ n
  pub small : HasSmallNumbers f
  pub bounds : coefficient_of m f ≢ pos 0
