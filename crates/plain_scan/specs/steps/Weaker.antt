-- Rows that are not negative where others are not, since parameters are not.
use Rattle.std.specs.Prelude.{◌≡◌, ℕ, ℤ, pos, ◌≤ℤ◌, List, [], ◌∷◌, ◌++◌, length}
use Rattle.whole_numbers.specs.Affine.{Affine, form_of, value_of}
use Rattle.scop_syntax.specs.Limits.{AreInRange}
use Rattle.loop_tree.specs.Walk.{max_z}
use Rattle.affine_forms.specs.Parts.{variables_of}
use Rattle.plain_scan.specs.Between.{HasSmallNumbers}
use Rattle.plain_scan.specs.steps.Pieces.{Hold}

-- at m values and parameters in range f is not negative where g is not
abbrev pub IsWeaker : ℕ → Affine → Affine → Type 0
IsWeaker m g f = (front params : List ℤ) → length front ≡ m → AreInRange params
    → pos 0 ≤ℤ value_of g (front ++ params) → pos 0 ≤ℤ value_of f (front ++ params)

-- there f is not negative where none of the rows is
abbrev pub Follows : ℕ → List Affine → Affine → Type 0
Follows m gs f = (front params : List ℤ) → length front ≡ m → AreInRange params
    → Hold gs (front ++ params) → pos 0 ≤ℤ value_of f (front ++ params)

-- the greater of the numbers, one by one
abbrev pub greater_numbers : List ℤ → List ℤ → List ℤ
greater_numbers [] ys = []
greater_numbers (x ∷ xs) [] = []
greater_numbers (x ∷ xs) (y ∷ ys) = max_z x y ∷ greater_numbers xs ys

-- the form of the greater numbers of two
abbrev pub greater_form : Affine → Affine → Affine
greater_form f g = form_of (greater_numbers f.coefficients g.coefficients) (max_z f.constant g.constant)

-- a row of small numbers that is weaker than both others
pub record IsAbove (m : ℕ) (g h f : Affine) : Type 0 where
  pub sized : variables_of f ≡ variables_of g
  pub small : HasSmallNumbers f
  pub first : IsWeaker m g f
  pub second : IsWeaker m h f

-- a row of small numbers that is weaker than another, and follows from some
pub record IsAboveSome (m : ℕ) (g : Affine) (hs : List Affine) (f : Affine) : Type 0 where
  pub sized : variables_of f ≡ variables_of g
  pub small : HasSmallNumbers f
  pub first : IsWeaker m g f
  pub second : Follows m hs f
