-- The rows of a tableau, and the values that they give.
use Rattle.std.specs.Prelude.{◌≡◌, ℕ, ℤ, pos, ◌*ℤ◌, ◌<ℤ◌, List, [], ◌∷◌, length, get_or, ⊤}
use Rattle.whole_numbers.specs.Lists.{dot}

-- a row: its denominator, and one entry for each column, then the constant, then one for each parameter
pub record Row : Type 0 where
  pub denominator : ℤ
  pub entries : List ℤ

-- the row of these numbers
abbrev pub row_of : ℤ → List ℤ → Row
row_of denominator entries = record { denominator = denominator; entries = entries }

-- the row's entry at a place
abbrev pub entry : Row → ℕ → ℤ
entry row j = get_or row.entries j (pos 0)

-- the row gives x at the columns' values, 1 and the parameters' values
abbrev pub At : Row → List ℤ → ℤ → Type 0
At row v x = row.denominator *ℤ x ≡ dot row.entries v

-- the first rows give these values
abbrev pub Means : List Row → List ℤ → List ℤ → Type 0
Means rows v [] = ⊤
Means [] v (x ∷ xs) = ⊥
Means (row ∷ rows) v (x ∷ xs) = At row v x × Means rows v xs

-- each row has a positive denominator and n entries
abbrev pub Sized : ℕ → List Row → Type 0
Sized n [] = ⊤
Sized n (row ∷ rows) = (pos 0 <ℤ row.denominator) × (length row.entries ≡ n) × Sized n rows
