-- What an elimination of a variable is, exactly and by its points.
use Rattle.std.specs.Prelude.{◌≡◌, ℕ, ℤ, pos, List, length, ◌↔◌, All}
use Rattle.fractions.specs.Fractions.{HoldsOver, HoldsForSome}
use Rattle.fractions.specs.Elimination.{coefficient_of, eliminated}
use Rattle.integer_sets.specs.Constraints.{Constraints, system_of, variables_in}
use Rattle.integer_sets.specs.Points.{Satisfies}

-- t has the constraints that the elimination of variable i from s is, in their order
abbrev pub IsEliminated : ℕ → Constraints → Constraints → Type 0
IsEliminated i s t =
    t ≡ system_of s.dimensions s.parameters (eliminated i s.equalities s.rows).0
    (eliminated i s.equalities s.rows).1

-- a whole point satisfies t exactly where some fraction for variable i satisfies s
abbrev pub IsProjection : ℕ → Constraints → Constraints → Type 0
IsProjection i s t =
    (point : List ℤ) → length point ≡ variables_in s → Satisfies t point
    ↔ HoldsForSome i s.equalities s.rows (pos 1) point

-- the same of each point of fractions, so that eliminations chain
abbrev pub IsProjectionOver : ℕ → Constraints → Constraints → Type 0
IsProjectionOver i s t =
    (d : ℤ) (numerators : List ℤ) → length numerators ≡ variables_in s
    → HoldsOver t.equalities t.rows d numerators ↔ HoldsForSome i s.equalities s.rows d numerators

-- no constraint has variable i
abbrev pub IsWithout : ℕ → Constraints → Type 0
IsWithout i t = All (λ f. coefficient_of i f ≡ pos 0) t.equalities × All (λ f. coefficient_of i f ≡ pos 0) t.rows

-- what an elimination of variable i from s gives
pub record Projects (i : ℕ) (s t : Constraints) : Type 0 where
  pub exact : IsEliminated i s t
  pub points : IsProjection i s t
  pub fractions : IsProjectionOver i s t
  pub without : IsWithout i t
