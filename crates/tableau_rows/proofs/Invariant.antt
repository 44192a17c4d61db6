-- What the moves keep of a tableau, beside its solutions: the proofs' own words.
use Rattle.whole_numbers.proofs.Common.{◌≡◌, ℕ, ◌<◌, ◌≤◌, ◌+◌, take, ℤ, pos, ◌+ℤ◌, ◌-ℤ◌, ◌*ℤ◌, ◌<ℤ◌, List, [], ◌∷◌}
use Rattle.whole_numbers.proofs.Common.{◌++◌, length, get_or, set, map, drop, ⊤, LexNotNegative, dot, multiples, zeros}
use Rattle.whole_numbers.proofs.Common.{NotNegative}
use Rattle.tableau_rows.specs.Rows.{Row, row_of, entry, Means, Sized}
use Rattle.tableau_rows.specs.Solutions.{IsSolution}

-- a column of rows
abbrev pub column : ℕ → List Row → List ℤ
column j rows = map (λ (row : Row). entry row j) rows

-- a x - b y at each place
abbrev pub crossed : ℤ → ℤ → List ℤ → List ℤ → List ℤ
crossed a b [] ys = []
crossed a b (x ∷ xs) [] = []
crossed a b (x ∷ xs) (y ∷ ys) = ((x *ℤ a) -ℤ (b *ℤ y)) ∷ crossed a b xs ys

-- a row with the pivot row solved for its column s put in
abbrev pub combined : ℕ → Row → Row → Row
combined s pivot row =
    row_of (row.denominator *ℤ entry pivot s)
    (set (crossed (entry pivot s) (entry row s) row.entries pivot.entries) s (entry row s *ℤ pivot.denominator))

-- the second row is the first with a positive common factor left out
pub record IsLowered (row lower : Row) : Type 0 where
  pub factor : ℤ
  pub positive : pos 0 <ℤ factor
  pub denominators : row.denominator ≡ factor *ℤ lower.denominator
  pub entries : row.entries ≡ multiples factor lower.entries

-- each row is combined with the pivot row
abbrev pub Pivoted : ℕ → Row → List Row → List Row → Type 0
Pivoted s pivot [] [] = ⊤
Pivoted s pivot [] (new ∷ news) = ⊥
Pivoted s pivot (row ∷ rows) [] = ⊥
Pivoted s pivot (row ∷ rows) (new ∷ news) = IsLowered (combined s pivot row) new × Pivoted s pivot rows news

-- the point at which the rows' values before a pivot are those at v behind it, times the entry in the column
abbrev pub before : ℕ → Row → List ℤ → List ℤ
before s pivot v =
    set (multiples (entry pivot s) v) s
    (((pivot.denominator *ℤ get_or v s (pos 0)) -ℤ dot pivot.entries v) +ℤ (entry pivot s *ℤ get_or v s (pos 0)))

-- two columns compared: each row's entry in the one, times the pivot row's in the other, less the turned product
abbrev pub compared : ℕ → ℕ → Row → List Row → List ℤ
compared s j pivot rows =
    map (λ (row : Row). (entry row j *ℤ entry pivot s) -ℤ (entry row s *ℤ entry pivot j)) rows

-- the values of rows at a point
abbrev pub values : List (List ℤ) → List ℤ → List ℤ
values givens point = map (λ (g : List ℤ). dot g point) givens

-- whatever the columns' values are, where the first n rows give whole numbers the rows behind them give the
-- values of the given rows there
abbrev pub Faithful : ℕ → List (List ℤ) → List Row → Type 0
Faithful n givens rows =
    (v xs : List ℤ) → n < length v → length xs ≡ n → Means rows v xs
    → Means (drop n rows) v (values givens (xs ++ drop n v))

-- what the rows give where every column is 0
abbrev pub part : ℕ → Row → List ℤ → ℤ
part n row p = dot row.entries (zeros n ++ pos 1 ∷ p)

-- xs are not negative, and so are the given rows there
pub record IsInside (n : ℕ) (givens : List (List ℤ)) (p xs : List ℤ) : Type 0 where
  pub size : length xs ≡ n
  pub not_negative : NotNegative xs
  pub rows : NotNegative (values givens (xs ++ pos 1 ∷ p))

-- what every move keeps
pub record Stands (n : ℕ) (givens : List (List ℤ)) (rows : List Row) (p : List ℤ) : Type 0 where
  pub sized : Sized (n + 1 + length p) rows
  pub many : n ≤ length rows
  pub up : (j : ℕ) → j < n → LexNotNegative (column j (take n rows))
  pub faithful : Faithful n givens rows
  pub reached : (xs : List ℤ) → IsInside n givens p xs → IsSolution n rows p xs
