-- Outlines copied, and rows that bound a variable.
use Rattle.std.specs.Prelude.{◌≡◌, ℕ, Bool, true, false, zero, suc, ℤ, pos, negsuc, List, [], ◌∷◌, ⊤}
use Rattle.whole_numbers.specs.Affine.{Affine}
use Rattle.integer_sets.specs.Scanned.{Scanned}
use Rattle.fractions.specs.Elimination.{coefficient_of}
use Rattle.plain_scan.specs.declared.outline.Shadow.{Shadow}

-- the second shadow tells what the first tells
pub record IsCopy (a b : Shadow) : Type 0 where
  pub rows : b.rows.items ≡ a.rows.items
  pub low : b.low ≡ a.low
  pub high : b.high ≡ a.high

-- one by one
abbrev pub AreCopies : List Shadow → List Shadow → Type 0
AreCopies [] [] = ⊤
AreCopies [] (b ∷ bs) = ⊥
AreCopies (a ∷ more) [] = ⊥
AreCopies (a ∷ more) (b ∷ bs) = IsCopy a b × AreCopies more bs

-- the set, or none
abbrev pub one_if : Bool → Scanned → List Scanned
one_if true s = s ∷ []
one_if false s = []

-- f in front of the list if the number is not 0
abbrev pub if_bounds : ℤ → Affine → List Affine → List Affine
if_bounds (pos zero) f fs = fs
if_bounds (pos (suc n)) f fs = f ∷ fs
if_bounds (negsuc n) f fs = f ∷ fs

-- the rows that bound the variable at place m
abbrev pub bounding_in : ℕ → List Affine → List Affine
bounding_in m [] = []
bounding_in m (f ∷ fs) = if_bounds (coefficient_of m f) f (bounding_in m fs)
