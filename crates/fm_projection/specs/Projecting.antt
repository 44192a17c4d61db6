-- Dimensions eliminated one after another, each with its column: projections on the first dimensions.
use Rattle.std.specs.Prelude.{◌≡◌, ℕ, zero, suc, ◌-◌, ◌<◌, ℤ, pos, ◌*ℤ◌, ◌<ℤ◌, List, ◌∷◌, ◌++◌, length, map}
use Rattle.std.specs.Prelude.{Result, Ok, Err, ◌↔◌}
use Rattle.whole_numbers.specs.Lists.{multiples}
use Rattle.fractions.specs.Fractions.{HoldsOver}
use Rattle.fractions.specs.Elimination.{eliminated, narrowed}
use Rattle.integer_sets.specs.Constraints.{Constraints, system_of}
use Rattle.integer_sets.specs.Points.{Satisfies}
use Rattle.fm_projection.specs.declared.stop.FmStop.{FmStop}
use Rattle.fm_projection.specs.Gives.{Eliminates}
use Rattle.fm_projection.specs.Tightest.{tightened}

-- the elimination of variable i
abbrev pub elimination_of : ℕ → Constraints → Constraints
elimination_of i s = system_of s.dimensions s.parameters (eliminated i s.equalities s.rows).0
    (eliminated i s.equalities s.rows).1

-- the system without the column of dimension i
abbrev pub without_column : ℕ → Constraints → Constraints
without_column i s = system_of (s.dimensions - 1) s.parameters (map (narrowed i) s.equalities) (map (narrowed i) s.rows)

-- dimension i eliminated, and its column with it; of rows with the same coefficients the tightest stays
abbrev pub gone : ℕ → Constraints → Constraints
gone i s = tightened (without_column i (elimination_of i s))

-- the elimination of dimension i forms few pairs, and numbers of 128 bits
abbrev pub Passes : ℕ → Constraints → Type 0
Passes i s = Eliminates i s (Ok (elimination_of i s))

-- the call eliminates the dimension, drops its column, and keeps the tightest rows, or stops as the elimination does
abbrev pub Drops : ℕ → Constraints → Result Constraints FmStop → Type 0
Drops i s (Ok t) = Passes i s × (t ≡ gone i s)
Drops i s (Err stop) = Eliminates i s (Err stop)

-- the projection on all dimensions but the last n, which go from the last on
abbrev pub projected : ℕ → Constraints → Constraints
projected zero s = s
projected (suc n) s = gone (s.dimensions - suc n) (projected n s)

-- each of the first n of these eliminations passes
abbrev pub PassProjecting : ℕ → Constraints → Type 0
PassProjecting n s = (k : ℕ) → k < n → Passes (s.dimensions - suc k) (projected k s)

-- n times the dimension at place i
abbrev pub all_gone : ℕ → ℕ → Constraints → Constraints
all_gone i zero s = s
all_gone i (suc n) s = gone i (all_gone i n s)

-- each whole point of t, without its entry i, is one of u
abbrev pub Follow : ℕ → Constraints → Constraints → Type 0
Follow i t u = (outer : List ℤ) (x : ℤ) (rest : List ℤ) → length outer ≡ i → Satisfies t (outer ++ x ∷ rest)
    → Satisfies u (outer ++ rest)

-- some fractions for n dimensions between those of front / d and back / d, all over a multiple of d
pub record HoldsForSomeBetween (n : ℕ) (s : Constraints) (d : ℤ) (front back : List ℤ) : Type 0 where
  pub factor : ℤ
  pub between : List ℤ
  pub positive : pos 0 <ℤ factor
  pub size : length between ≡ n
  pub holds : HoldsOver s.equalities s.rows (factor *ℤ d)
      (multiples factor front ++ (between ++ multiples factor back))

-- a point of fractions satisfies t exactly where some fractions for n dimensions from i on satisfy s with it
abbrev pub IsLeftOf : ℕ → ℕ → Constraints → Constraints → Type 0
IsLeftOf i n s t = (d : ℤ) (front back : List ℤ) → pos 0 <ℤ d → length front ≡ i
    → HoldsOver t.equalities t.rows d (front ++ back) ↔ HoldsForSomeBetween n s d front back
