-- Rows sorted into those that bound a variable from below and those that do from above.
use Rattle.std.specs.Prelude.{ℕ, ℤ, pos, negsuc, zero, suc, List, [], ◌∷◌}
use Rattle.whole_numbers.specs.Affine.{Affine}
use Rattle.fractions.specs.Elimination.{coefficient_of}

-- f in front of the list if the number is above 0
abbrev pub if_above : ℤ → Affine → List Affine → List Affine
if_above (pos zero) f fs = fs
if_above (pos (suc n)) f fs = f ∷ fs
if_above (negsuc n) f fs = fs

-- f in front of the list if the number is below 0
abbrev pub if_below : ℤ → Affine → List Affine → List Affine
if_below (pos n) f fs = fs
if_below (negsuc n) f fs = f ∷ fs

-- the rows that bound the variable at place m from below
abbrev pub lows_in : ℕ → List Affine → List Affine
lows_in m [] = []
lows_in m (f ∷ fs) = if_above (coefficient_of m f) f (lows_in m fs)

-- those that do from above
abbrev pub highs_in : ℕ → List Affine → List Affine
highs_in m [] = []
highs_in m (f ∷ fs) = if_below (coefficient_of m f) f (highs_in m fs)
