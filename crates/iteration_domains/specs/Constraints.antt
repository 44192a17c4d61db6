-- Comparisons in order as a system: its equalities, and its rows that are at least 0, each in their order.
use Rattle.std.specs.Prelude.{ℕ, List, [], ◌∷◌, ◌++◌, map}
use Rattle.whole_numbers.specs.Affine.{Affine}
use Rattle.integer_sets.specs.Constraints.{Constraints, system_of}
use Rattle.scop_syntax.specs.Tree.{Test, at_least, equal}

-- the forms that are to be 0
abbrev pub equalities_in : List Test → List Affine
equalities_in [] = []
equalities_in (at_least f ∷ tests) = equalities_in tests
equalities_in (equal f ∷ tests) = f ∷ equalities_in tests

-- the forms that are to be at least 0
abbrev pub rows_in : List Test → List Affine
rows_in [] = []
rows_in (at_least f ∷ tests) = f ∷ rows_in tests
rows_in (equal f ∷ tests) = rows_in tests

-- the system over dimensions and parameters
abbrev pub constraints_of : ℕ → ℕ → List Test → Constraints
constraints_of dimensions parameters tests = system_of dimensions parameters (equalities_in tests) (rows_in tests)

-- and the comparisons of a system: its equalities, then its rows
abbrev pub tests_of : Constraints → List Test
tests_of s = map equal s.equalities ++ map at_least s.rows
