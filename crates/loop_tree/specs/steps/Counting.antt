-- What a count by multiplication rests on: forms that do not name some loops, and values of those that may be any.
use Rattle.std.specs.Prelude.{◌≡◌, ℕ, ℤ, List, [], ◌∷◌, ◌++◌, ⊤, drop, length, take}
use Rattle.whole_numbers.specs.Affine.{Affine}
use Rattle.loop_tree.specs.Fits.{AreZeros, form_in}
use Rattle.loop_tree.specs.Tree.{Bounds, only, besides, Test}

-- the form names none of k loops from place p on
abbrev pub IsFree : ℕ → ℕ → Affine → Type 0
IsFree p k f = AreZeros (take k (drop p f.coefficients))

-- nor do those of bounds
abbrev pub BoundsAreFree : ℕ → ℕ → Bounds → Type 0
BoundsAreFree p k (only b) = IsFree p k b.form
BoundsAreFree p k (besides b bs) = IsFree p k b.form × BoundsAreFree p k bs

-- those of tests
abbrev pub TestsAreFree : ℕ → ℕ → List Test → Type 0
TestsAreFree p k [] = ⊤
TestsAreFree p k (test ∷ tests) = IsFree p k (form_in test) × TestsAreFree p k tests

-- the values of loops, and of k loops within them
pub record AreWithin (k : ℕ) (round outer : List ℤ) : Type 0 where
  pub inner : List ℤ
  pub count : length inner ≡ k
  pub all : outer ≡ round ++ inner
