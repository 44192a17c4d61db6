-- The problem of a tableau: the lexicographically least whole point >= 0 of rows at given parameters.
use Rattle.std.specs.Prelude.{◌≡◌, ℕ, zero, suc, ℤ, pos, List, [], ◌∷◌, ◌++◌, ◌+◌, length, map, take, drop, ⊤}
use Rattle.whole_numbers.specs.Lists.{NotNegative}
use Rattle.whole_numbers.specs.Affine.{Affine, value_of}
use Rattle.whole_numbers.specs.Lexicographic.{IsLeast}
use Rattle.tableau_rows.specs.Rows.{Row, row_of}
use Rattle.tableau_rows.specs.Moves.{unit_row}

-- rows over unknowns x and, behind them, parameters
pub record Problem : Type 0 where
  pub unknowns : ℕ
  pub rows : List Affine

-- the problem of these rows
abbrev pub problem_of : ℕ → List Affine → Problem
problem_of n rows = record { unknowns = n; rows = rows }

-- the values of the rows
abbrev pub row_values : List Affine → List ℤ → List ℤ
row_values rows point = map (λ (f : Affine). value_of f point) rows

-- x is a whole point of the problem at the parameters p
pub record IsPoint (problem : Problem) (p x : List ℤ) : Type 0 where
  pub size : length x ≡ problem.unknowns
  pub not_negative : NotNegative x
  pub rows : NotNegative (row_values problem.rows (x ++ p))

-- x is the lexicographically least whole point at p
abbrev pub IsLexmin : Problem → List ℤ → List ℤ → Type 0
IsLexmin problem p x = IsLeast (λ y. IsPoint problem p y) problem.unknowns x

-- there is no whole point
abbrev pub IsEmpty : Problem → List ℤ → Type 0
IsEmpty problem p = (x : List ℤ) → IsPoint problem p x → ⊥

-- a row's entries: those of the unknowns, the constant, those of the parameters
abbrev pub entries_of : ℕ → Affine → List ℤ
entries_of n f = take n f.coefficients ++ (f.constant ∷ drop n f.coefficients)

-- k rows of m entries that are the columns themselves, from column i on
abbrev pub unit_rows : ℕ → ℕ → ℕ → List Row
unit_rows m i zero = []
unit_rows m i (suc k) = unit_row m i ∷ unit_rows m (suc i) k

-- the rows of a problem of n unknowns as rows of a tableau
abbrev pub given_rows : ℕ → List Affine → List Row
given_rows n [] = []
given_rows n (f ∷ fs) = row_of (pos 1) (entries_of n f) ∷ given_rows n fs

-- the tableau of a problem with m parameters: first each unknown is its column, then come the problem's rows
abbrev pub first_rows : ℕ → Problem → List Row
first_rows m problem =
    unit_rows (problem.unknowns + 1 + m) 0 problem.unknowns ++ given_rows problem.unknowns problem.rows

-- each form speaks of k variables
abbrev pub Speaks : ℕ → List Affine → Type 0
Speaks k [] = ⊤
Speaks k (f ∷ fs) = (length f.coefficients ≡ k) × Speaks k fs
