-- The whole points of a system, and its least at given parameters.
use Rattle.std.specs.Prelude.{◌≡◌, ℤ, pos, ◌≤ℤ◌, List, ◌++◌, All}
use Rattle.affine_forms.specs.Affine.{value_of}
use Rattle.affine_forms.specs.Lexicographic.{IsLeast}
use Rattle.integer_sets.specs.Constraints.{Constraints}

-- a whole point satisfies a system: each equality is 0 there, and each row is at least 0
abbrev pub Satisfies : Constraints → List ℤ → Type 0
Satisfies s point =
    All (λ f. value_of f point ≡ pos 0) s.equalities × All (λ f. pos 0 ≤ℤ value_of f point) s.rows

-- the lexicographically least point of a system at parameters
abbrev pub IsLeastPoint : Constraints → List ℤ → List ℤ → Type 0
IsLeastPoint s parameters point = IsLeast (λ x. Satisfies s (x ++ parameters)) s.dimensions point
