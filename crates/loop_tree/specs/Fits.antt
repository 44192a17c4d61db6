-- The numbers that a walk forms, and trees whose numbers are small.
use Rattle.std.specs.Prelude.{◌≡◌, true, ℕ, zero, suc, ◌^◌, ◌<◌, ◌≤◌, ℤ, pos, ◌+ℤ◌, ◌*ℤ◌, List, [], ◌∷◌, ◌++◌}
use Rattle.std.specs.Prelude.{length, ◌⊎◌, ⊤, unsigned_abs}
use Rattle.whole_numbers.specs.Affine.{Affine, value_of}
use Rattle.scop_syntax.specs.Kernel.{IsForm}
use Rattle.loop_tree.specs.Tree.{Bound, Bounds, only, besides, Test, at_least, equal, multiple, Tree, loop, guard}
use Rattle.loop_tree.specs.Tree.{instance, Trees, none, more}
use Rattle.loop_tree.specs.Walk.{all_hold}
use Rattle.loop_tree.specs.Scans.{Within}

-- 128 bits hold the number, and its negative
abbrev pub Room : ℤ → Type 0
Room z = unsigned_abs z < 2 ^ 127

-- each product and each sum of a dot product, from a first sum on
abbrev pub SumsFit : ℤ → List ℤ → List ℤ → Type 0
SumsFit sum [] ys = ⊤
SumsFit sum (x ∷ xs) [] = ⊤
SumsFit sum (x ∷ xs) (y ∷ ys) = Room (x *ℤ y) × Room (sum +ℤ (x *ℤ y)) × SumsFit (sum +ℤ (x *ℤ y)) xs ys

-- those of a form's value, the constant put last
pub record FormFits (f : Affine) (point : List ℤ) : Type 0 where
  pub sums : SumsFit (pos 0) f.coefficients point
  pub value : Room (value_of f point)

-- those of bounds
abbrev pub BoundsFit : Bounds → List ℤ → Type 0
BoundsFit (only b) point = FormFits b.form point
BoundsFit (besides b bs) point = FormFits b.form point × BoundsFit bs point

-- what a test asks of
abbrev pub form_in : Test → Affine
form_in (at_least f) = f
form_in (equal f) = f
form_in (multiple f d) = f

-- those of tests
abbrev pub TestsFit : List Test → List ℤ → Type 0
TestsFit [] point = ⊤
TestsFit (test ∷ tests) point = FormFits (form_in test) point × TestsFit tests point

-- those of an instance
abbrev pub FormsFit : List Affine → List ℤ → Type 0
FormsFit [] point = ⊤
FormsFit (f ∷ fs) point = FormFits f point × FormsFit fs point

abbrev mutual
  -- all numbers of a tree's walk within loops of these values
  pub Fits : Tree → List ℤ → List ℤ → Type 0
  Fits (loop flag lo up body) params outer =
      BoundsFit lo (outer ++ params) × BoundsFit up (outer ++ params)
      × ((x : ℤ) → Within lo up (outer ++ params) x → Room x × FitsAll body params (outer ++ x ∷ []))
  Fits (guard tests body) params outer =
      TestsFit tests (outer ++ params) × (all_hold tests (outer ++ params) ≡ true → FitsAll body params outer)
  Fits (instance n forms) params outer = FormsFit forms (outer ++ params)

  -- those of trees, one after another
  pub FitsAll : Trees → List ℤ → List ℤ → Type 0
  FitsAll none params outer = ⊤
  FitsAll (more t ts) params outer = Fits t params outer × FitsAll ts params outer

-- numbers within 2^40
abbrev pub IsSmall : Affine → Type 0
IsSmall f = IsForm (length f.coefficients) (2 ^ 40) (2 ^ 40) f

-- no coefficient
abbrev pub AreZeros : List ℤ → Type 0
AreZeros [] = ⊤
AreZeros (c ∷ cs) = (c ≡ pos 0) × AreZeros cs

-- a bound that is a number within 2^40
pub record IsNumber (b : Bound) : Type 0 where
  pub form : AreZeros b.form.coefficients
  pub constant : unsigned_abs b.form.constant ≤ 2 ^ 40
  pub divisor : b.divisor ≡ pos 1

-- the numbers of all are small
abbrev pub AreSmallBounds : Bounds → Type 0
AreSmallBounds (only b) = IsSmall b.form
AreSmallBounds (besides b bs) = IsSmall b.form × AreSmallBounds bs

-- one of them is a number
abbrev pub HasNumber : Bounds → Type 0
HasNumber (only b) = IsNumber b
HasNumber (besides b bs) = IsNumber b ⊎ HasNumber bs

-- the numbers of tests are small
abbrev pub AreSmallTests : List Test → Type 0
AreSmallTests [] = ⊤
AreSmallTests (test ∷ tests) = IsSmall (form_in test) × AreSmallTests tests

-- those of an instance are
abbrev pub AreSmallForms : List Affine → Type 0
AreSmallForms [] = ⊤
AreSmallForms (f ∷ fs) = IsSmall f × AreSmallForms fs

abbrev mutual
  -- at most d loops in one another, each with a number on each side, and small numbers
  pub IsSmallTree : ℕ → Tree → Type 0
  IsSmallTree zero (loop flag lo up body) = ⊥
  IsSmallTree (suc d) (loop flag lo up body) =
      AreSmallBounds lo × AreSmallBounds up × HasNumber lo × HasNumber up × AreSmallTrees d body
  IsSmallTree d (guard tests body) = AreSmallTests tests × AreSmallTrees d body
  IsSmallTree d (instance n forms) = AreSmallForms forms

  -- each of these trees is such a one
  pub AreSmallTrees : ℕ → Trees → Type 0
  AreSmallTrees d none = ⊤
  AreSmallTrees d (more t ts) = IsSmallTree d t × AreSmallTrees d ts
