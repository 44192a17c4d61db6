-- Lists of values, and the rows that give them.
use Rattle.whole_numbers.proofs.Common.{◌≡◌, ℕ, zero, suc, ◌<◌, ◌≤◌, ℤ, pos, ◌<ℤ◌, List, [], ◌∷◌, ◌++◌, length, get_or}
use Rattle.whole_numbers.proofs.Common.{take, arith, NotNegative}
use Rattle.tableau_rows.specs.Rows.{Row, At, Means, Sized}
use Rattle.tableau_rows.specs.Moves.{row_at}

pub means_at : (rows : List Row) (v xs : List ℤ) (r : ℕ) → length xs ≡ length rows → r < length rows → Means rows v xs
    → At (row_at rows r) v (get_or xs r (pos 0))
means_at [] v xs r same within means = absurd (omega arith)
means_at (row ∷ rows) v [] r same within means = absurd (omega arith)
means_at (row ∷ rows) v (x ∷ xs) zero same within means = means.0
means_at (row ∷ rows) v (x ∷ xs) (suc r) same within means = means_at rows v xs r (omega arith) (omega arith) means.1

pub sized_at : (m : ℕ) (rows : List Row) (r : ℕ) → r < length rows → Sized m rows
    → (pos 0 <ℤ (row_at rows r).denominator) × (length (row_at rows r).entries ≡ m)
sized_at m [] r within sized = absurd (omega arith)
sized_at m (row ∷ rows) zero within sized = (sized.0, sized.1)
sized_at m (row ∷ rows) (suc r) within sized = sized_at m rows r (omega arith) sized.2

pub means_take : (n : ℕ) (rows : List Row) (v xs : List ℤ) → length xs ≤ n → Means rows v xs → Means (take n rows) v xs
means_take n rows v [] size means = tt
means_take zero rows v (x ∷ xs) size means = absurd (omega arith)
means_take (suc n) [] v (x ∷ xs) size means = absurd means
means_take (suc n) (row ∷ rows) v (x ∷ xs) size means = (means.0, means_take n rows v xs (omega arith) means.1)

-- the first of the values
pub means_fewer : (rows : List Row) (v xs more : List ℤ) → Means rows v (xs ++ more) → Means rows v xs
means_fewer rows v [] more h = tt
means_fewer [] v (x ∷ xs) more h = absurd h
means_fewer (row ∷ rows) v (x ∷ xs) more h = (h.0, means_fewer rows v xs more h.1)

pub not_negative-parts : (xs ys : List ℤ) → NotNegative (xs ++ ys) → NotNegative xs × NotNegative ys
not_negative-parts [] ys h = (tt, h)
not_negative-parts (x ∷ xs) ys h = let more = not_negative-parts xs ys h.1 in ((h.0, more.0), more.1)

pub sized_take : (n m : ℕ) (rows : List Row) → Sized m rows → Sized m (take n rows)
sized_take zero m rows h = tt
sized_take (suc n) m [] h = tt
sized_take (suc n) m (row ∷ rows) h = (h.0, h.1, sized_take n m rows h.2)

-- rows and one more
pub means_more : (rows : List Row) (new : Row) (v xs : List ℤ) (w : ℤ) → length xs ≡ length rows → Means rows v xs
    → At new v w
    → Means (rows ++ new ∷ []) v (xs ++ w ∷ [])
means_more [] new v [] w same means at = (at, tt)
means_more [] new v (x ∷ xs) w same means at = absurd (omega arith)
means_more (row ∷ rows) new v [] w same means at = absurd (omega arith)
means_more (row ∷ rows) new v (x ∷ xs) w same means at = (means.0, means_more rows new v xs w (omega arith) means.1 at)

pub means_longer : (rows more : List Row) (v xs : List ℤ) → Means rows v xs → Means (rows ++ more) v xs
means_longer rows more v [] means = tt
means_longer [] more v (x ∷ xs) means = absurd means
means_longer (row ∷ rows) more v (x ∷ xs) means = (means.0, means_longer rows more v xs means.1)

pub means_shorter : (rows more : List Row) (v xs : List ℤ) → length xs ≤ length rows → Means (rows ++ more) v xs
    → Means rows v xs
means_shorter rows more v [] h means = tt
means_shorter [] more v (x ∷ xs) h means = absurd (omega arith)
means_shorter (row ∷ rows) more v (x ∷ xs) h means = (means.0, means_shorter rows more v xs (omega arith) means.1)

pub sized_more : (m : ℕ) (rows : List Row) (new : Row) → Sized m rows → pos 0 <ℤ new.denominator
    → length new.entries ≡ m → Sized m (rows ++ new ∷ [])
sized_more m [] new sized positive size = (positive, size, tt)
sized_more m (row ∷ rows) new sized positive size = (sized.0, sized.1, sized_more m rows new sized.2 positive size)
