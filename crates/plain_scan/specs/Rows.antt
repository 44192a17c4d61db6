-- Rows of a projection as the bounds of a loop.
use Rattle.std.specs.Prelude.{ℕ, pos, neg_ℤ, List, [], ◌∷◌}
use Rattle.whole_numbers.specs.Affine.{Affine, multiple_of_form}
use Rattle.fractions.specs.Elimination.{coefficient_of, narrowed}
use Rattle.loop_tree.specs.Tree.{Bound, Bounds, only, besides}

-- a x + rest >= 0 with 0 < a: x is at least -rest / a; with a < 0: x is at most rest / -a
abbrev pub low_bound : ℕ → Affine → Bound
low_bound m f = record { form = multiple_of_form (neg_ℤ (pos 1)) (narrowed m f); divisor = coefficient_of m f }

abbrev pub high_bound : ℕ → Affine → Bound
high_bound m f = record { form = narrowed m f; divisor = neg_ℤ (coefficient_of m f) }

-- the bounds of rows, of which there is one
abbrev pub low_bounds : ℕ → Affine → List Affine → Bounds
low_bounds m f [] = only (low_bound m f)
low_bounds m f (g ∷ gs) = besides (low_bound m f) (low_bounds m g gs)

abbrev pub high_bounds : ℕ → Affine → List Affine → Bounds
high_bounds m f [] = only (high_bound m f)
high_bounds m f (g ∷ gs) = besides (high_bound m f) (high_bounds m g gs)
