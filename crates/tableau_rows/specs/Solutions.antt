-- The whole solutions of a tableau's rows, which moves keep, and what makes rows a tableau.
use Rattle.std.specs.Prelude.{◌≡◌, ◌≢◌, ◌↔◌, ℕ, ◌+◌, ◌<◌, ◌≤◌, ℤ, pos, List, ◌∷◌, ◌++◌, length, get_or, Option, Some}
use Rattle.std.specs.Prelude.{None, ⊤, ◌-ℤ◌}
use Rattle.whole_numbers.specs.Lists.{dot, zeros, NotNegative}
use Rattle.whole_numbers.specs.Division.{IsFloor}
use Rattle.tableau_rows.specs.Rows.{Row, entry, Means, Sized}
use Rattle.tableau_rows.specs.Moves.{row_at, cut_entries}

-- x is a whole solution of the rows at the parameters p: there are whole numbers for the n columns at which the rows
-- give x and, behind it, more whole numbers, none of all these negative
pub record IsSolution (n : ℕ) (rows : List Row) (p x : List ℤ) : Type 0 where
  pub columns : List ℤ
  pub more : List ℤ
  pub size : length x ≡ n
  pub columns_size : length columns ≡ n
  pub not_negative : NotNegative columns
  pub number : length (x ++ more) ≡ length rows
  pub rows_not_negative : NotNegative (x ++ more)
  pub means : Means rows (columns ++ pos 1 ∷ p) (x ++ more)

-- at the parameters p the two have the same whole solutions
abbrev pub HaveSameSolutions : ℕ → List Row → List Row → List ℤ → Type 0
HaveSameSolutions n rows news p = (x : List ℤ) → IsSolution n rows p x ↔ IsSolution n news p x

-- the row gives the value of the column j
pub record IsColumn (j : ℕ) (row : Row) : Type 0 where
  pub own : entry row j ≡ row.denominator
  pub others : (i : ℕ) → i ≢ j → entry row i ≡ pos 0

-- one of the rows gives the value of the column j
pub record HasColumn (j : ℕ) (rows : List Row) : Type 0 where
  pub place : ℕ
  pub within : place < length rows
  pub is : IsColumn j (row_at rows place)

-- rows are a tableau of n unknowns and m parameters: those of the unknowns come first, and each column is the
-- variable of one of the rows
pub record IsTableau (n m : ℕ) (rows : List Row) : Type 0 where
  pub sized : Sized (n + 1 + m) rows
  pub many : n ≤ length rows
  pub columns : (j : ℕ) → j < n → HasColumn j rows

-- the value of the parameter at a place, 0 where there is none
abbrev pub tie : Option ℕ → List ℤ → ℤ
tie None v = pos 0
tie (Some k) v = get_or v k (pos 0)

-- the place is one of a parameter's, or none
abbrev pub IsPlaced : ℕ → ℕ → Option ℕ → Type 0
IsPlaced n m None = ⊤
IsPlaced n m (Some k) = k < n + 1 + m

-- the parameter at the place is the quotient, rounded down, of what the cut on the row takes off
abbrev pub IsTied : ℕ → Option ℕ → Row → List ℤ → Type 0
IsTied n place row p =
    (ys : List ℤ) → length ys ≡ n
    → IsFloor (pos 0 -ℤ dot (cut_entries n row.denominator row.entries) (zeros n ++ pos 1 ∷ p)) row.denominator
    (tie place (ys ++ pos 1 ∷ p))
