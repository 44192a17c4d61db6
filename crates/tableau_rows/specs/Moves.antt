-- The moves of a tableau: the pivot of the dual simplex method (Feautrier 1988) and Gomory's cut (1958), number by
-- number in 128 bits, on rows and on the lines of a buffer.
use Rattle.std.specs.Prelude.{ℕ, zero, suc, ℤ, pos, negsuc, neg_ℤ, ◌+ℤ◌, ◌-ℤ◌, Bool, true, false, nat_eq, if◌then◌else◌}
use Rattle.std.specs.Prelude.{List, [], ◌∷◌, ◌++◌, length, get_or, set, take, drop, ◌+◌, ⊤, ◌<ℤ◌, Option, Some, None}
use Rattle.std.specs.Prelude.{Result, Ok}
use Rattle.whole_numbers.specs.Lists.{zeros}
use Rattle.whole_numbers.specs.Floor.{remainder, floor, floors}
use Rattle.whole_numbers.specs.Content.{content, lowest}
use Rattle.affine_forms.specs.Wide.{Wide}
use Rattle.affine_forms.specs.Checked.{difference_of, product_of, cross_of, ◌>>=◌}
use Rattle.affine_forms.specs.Runs.{zip_run}
use Rattle.tableau_rows.specs.Rows.{Row, row_of, entry}

-- a row in lowest terms: its numbers divided by their greatest common divisor
unfoldable pub lowest_row : Row → Row
lowest_row row =
    row_of (floor row.denominator (pos (content (row.denominator ∷ row.entries))))
    (floors (pos (content (row.denominator ∷ row.entries))) row.entries)

-- the row of m entries that is the column s itself
abbrev pub unit_row : ℕ → ℕ → Row
unit_row m s = row_of (pos 1) (set (zeros m) s (pos 1))

-- whether z is at most -1
abbrev pub is_below : ℤ → Bool
is_below (pos n) = false
is_below (negsuc n) = true

-- whether z is at least 1
abbrev pub is_positive : ℤ → Bool
is_positive (pos zero) = false
is_positive (pos (suc n)) = true
is_positive (negsuc n) = false

-- x a - b y at each place
unfoldable pub crossed_run : ℤ → ℤ → List ℤ → List ℤ → Result (List ℤ) Wide
crossed_run a b xs ys = zip_run (λ x y. cross_of x a b y) xs ys

-- the entries of a row with the pivot row put in: x a - b y, but b d in the column s
abbrev pub entries_run : ℕ → ℤ → ℤ → ℤ → List ℤ → List ℤ → Result (List ℤ) Wide
entries_run s a b d [] ys = Ok []
entries_run s a b d (x ∷ xs) [] = Ok []
entries_run zero a b d (x ∷ xs) (y ∷ ys) = product_of b d >>= λ z. crossed_run a b xs ys >>= λ zs. Ok (z ∷ zs)
entries_run (suc s) a b d (x ∷ xs) (y ∷ ys) = cross_of x a b y >>= λ z. entries_run s a b d xs ys >>= λ zs. Ok (z ∷ zs)

-- a row other than the pivot row, in lowest terms
unfoldable pub row_run : ℕ → Row → Row → Result Row Wide
row_run s pivot row =
    product_of row.denominator (entry pivot s) >>= λ d.
    entries_run s (entry pivot s) (entry row s) pivot.denominator row.entries pivot.entries >>= λ es.
    Ok (lowest_row (row_of d es))

-- the same of rows that have their denominators in front, before lowest terms
unfoldable pub line_run : ℕ → List ℤ → List ℤ → Result (List ℤ) Wide
line_run s pivot row =
    product_of (get_or row 0 (pos 0)) (get_or pivot (s + 1) (pos 0)) >>= λ d.
    entries_run s (get_or pivot (s + 1) (pos 0)) (get_or row (s + 1) (pos 0)) (get_or pivot 0 (pos 0)) (drop 1 row)
    (drop 1 pivot) >>= λ es.
    Ok (d ∷ es)

-- the row of the column s itself, with its denominator in front
abbrev pub unit_line : ℕ → ℕ → List ℤ
unit_line m s = set (set (zeros m) 0 (pos 1)) (s + 1) (pos 1)

-- a row other than the pivot row, with its denominator in front, in lowest terms
unfoldable pub lowest_line_run : ℕ → List ℤ → List ℤ → Result (List ℤ) Wide
lowest_line_run s pivot row = line_run s pivot row >>= λ zs. Ok (lowest zs)

-- a row of a buffer, its denominator in front: the pivot row becomes the column s itself, any other takes it in
abbrev pub placed_line_run : Bool → ℕ → List ℤ → List ℤ → Result (List ℤ) Wide
placed_line_run is_pivot s pivot row = if is_pivot then Ok (unit_line (length row) s) else lowest_line_run s pivot row

-- `count` rows of a buffer, from place i on
abbrev pub buffer_run : ℕ → ℕ → List ℤ → ℕ → ℕ → List ℤ → Result (List ℤ) Wide
buffer_run r s pivot i zero cells = Ok cells
buffer_run r s pivot i (suc count) cells =
    placed_line_run (nat_eq i r) s pivot (take (length pivot) cells) >>= λ new.
    buffer_run r s pivot (suc i) count (drop (length pivot) cells) >>= λ rest. Ok (new ++ rest)

-- each row's denominator is positive
abbrev pub HeadsPositive : ℕ → ℕ → List ℤ → Type 0
HeadsPositive stride zero cells = ⊤
HeadsPositive stride (suc count) cells =
    (pos 0 <ℤ get_or cells 0 (pos 0)) × HeadsPositive stride count (drop stride cells)

-- the row at place i, the pivot row being the one at r
abbrev pub placed_run : ℕ → ℕ → Row → ℕ → Row → Result Row Wide
placed_run r s pivot i row = if nat_eq i r then Ok (unit_row (length row.entries) s) else row_run s pivot row

-- all rows from place i on
abbrev pub rows_run : ℕ → ℕ → Row → ℕ → List Row → Result (List Row) Wide
rows_run r s pivot i [] = Ok []
rows_run r s pivot i (row ∷ rows) =
    placed_run r s pivot i row >>= λ new. rows_run r s pivot (suc i) rows >>= λ news. Ok (new ∷ news)

-- whether column j divided by aj comes before column s divided by bs: row by row to the first difference
abbrev pub precedes_run : ℤ → ℤ → ℕ → ℕ → List Row → Result Bool Wide
precedes_run aj bs j s [] = Ok false
precedes_run aj bs j s (row ∷ rows) =
    product_of (entry row j) bs >>= λ new.
    product_of (entry row s) aj >>= λ old.
    if is_below (new -ℤ old) then Ok true else if is_below (old -ℤ new) then Ok false else precedes_run aj bs j s rows

-- of the best column so far, if there is one, and column j, whose entry in the pivot row is positive, the better
abbrev pub challenged_run : List Row → Row → ℕ → Option ℕ → Result (Option ℕ) Wide
challenged_run unknowns pivot j None = Ok (Some j)
challenged_run unknowns pivot j (Some s) =
    precedes_run (entry pivot j) (entry pivot s) j s unknowns >>= λ first. Ok (Some (if first then j else s))

-- the better of the best column so far and column j, which counts only with a positive entry in the pivot row
abbrev pub better_run : List Row → Row → ℕ → Option ℕ → Result (Option ℕ) Wide
better_run unknowns pivot j best =
    if is_positive (entry pivot j) then challenged_run unknowns pivot j best else Ok best

-- among k columns from j on, those with a positive entry in the pivot row: the one that is least divided by it
abbrev pub column_run : List Row → Row → ℕ → ℕ → Option ℕ → Result (Option ℕ) Wide
column_run unknowns pivot zero j best = Ok best
column_run unknowns pivot (suc k) j best =
    better_run unknowns pivot j best >>= λ next. column_run unknowns pivot k (suc j) next

-- the row at a place
abbrev pub row_at : List Row → ℕ → Row
row_at rows r = get_or rows r (row_of (pos 1) [])

-- a pivot on the row r in the column s; without a column the rows stay
abbrev pub pivot_in : List Row → ℕ → Option ℕ → Result (List Row) Wide
pivot_in rows r None = Ok rows
pivot_in rows r (Some s) = rows_run r s (row_at rows r) 0 rows

-- a pivot on the row r, in the column that the rows of the n unknowns choose
unfoldable pub pivot_run : ℕ → List Row → ℕ → Result (List Row) Wide
pivot_run n rows r = column_run (take n rows) (row_at rows r) n 0 None >>= λ s. pivot_in rows r s

-- the entries of a cut before its new parameter: a mod d for the n columns, -((-b) mod d) behind them
abbrev pub cut_entries : ℕ → ℤ → List ℤ → List ℤ
cut_entries n d [] = []
cut_entries zero d (b ∷ bs) = neg_ℤ (remainder (neg_ℤ b) d) ∷ cut_entries zero d bs
cut_entries (suc n) d (a ∷ es) = remainder a d ∷ cut_entries n d es

-- the same in 128 bits, where only the -b are formed, in order
abbrev pub cut_entries_run : ℕ → ℤ → List ℤ → Result (List ℤ) Wide
cut_entries_run n d [] = Ok []
cut_entries_run zero d (b ∷ bs) =
    difference_of (pos 0) b >>= λ m. cut_entries_run zero d bs >>= λ zs. Ok (neg_ℤ (remainder m d) ∷ zs)
cut_entries_run (suc n) d (a ∷ es) = cut_entries_run n d es >>= λ zs. Ok (remainder a d ∷ zs)

-- with d added at a place
abbrev pub tied : ℤ → Option ℕ → List ℤ → List ℤ
tied d None es = es
tied d (Some k) es = set es k (get_or es k (pos 0) +ℤ d)

-- the cut on a row, tied to the parameter at a place, or to none
unfoldable pub cut_run : ℕ → Option ℕ → Row → Result Row Wide
cut_run n place row =
    cut_entries_run n row.denominator row.entries >>= λ es.
    Ok (lowest_row (row_of row.denominator (tied row.denominator place es)))

-- the row of numbers with its denominator in front
abbrev pub line_row : List ℤ → Row
line_row zs = row_of (get_or zs 0 (pos 0)) (drop 1 zs)

-- the rows of a buffer of `count` lines, each of `stride` numbers
abbrev pub rows_in : ℕ → ℕ → List ℤ → List Row
rows_in stride zero cells = []
rows_in stride (suc count) cells = line_row (take stride cells) ∷ rows_in stride count (drop stride cells)

-- the rows of the buffer that a run gives
abbrev pub rows_of_run : ℕ → ℕ → Result (List ℤ) Wide → Result (List Row) Wide
rows_of_run stride count run = run >>= λ zs. Ok (rows_in stride count zs)
