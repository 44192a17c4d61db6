-- Where an instance stands in the scanned order: its place is the list of its scattering dimensions (Bastoul, "Code
-- generation in the polyhedral model is easier than you think", PACT 2004).
use Rattle.std.specs.Prelude.{ℕ, ◌-◌, ℤ, pos, List, ◌∷◌, ◌++◌, length, map}
use Rattle.whole_numbers.specs.Lists.{zeros}
use Rattle.loop_tree.specs.Tiling.{Items, item_values, coordinates, wave_sum}

-- the dimensions that stand before the iterators: leading scalars, wave sum, tile coordinates, items
abbrev pub before_iterators : ℤ → Items → List ℤ → List ℤ
before_iterators size s turns =
    map pos s.leading
    ++ wave_sum size s.band turns ∷ (coordinates size s.band turns ++ item_values s turns)

-- the place of an instance at these turns, where n is the greatest number of iterators of a statement
abbrev pub place_of : ℤ → ℕ → Items → List ℤ → List ℤ
place_of size n s turns = before_iterators size s turns ++ (turns ++ zeros (n - length turns))
