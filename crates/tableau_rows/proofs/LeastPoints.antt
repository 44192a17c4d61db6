-- Columns whose first number that is not 0 is positive: a pivot keeps them, and with them the point at 0 is the least.
use Rattle.whole_numbers.proofs.Common.{◌≡◌, ◌≢◌, ℕ, zero, suc, ◌+◌, ◌<◌, ◌≤◌, ℤ, pos, ◌+ℤ◌, ◌-ℤ◌, ◌*ℤ◌, ◌≤ℤ◌, ◌<ℤ◌}
use Rattle.whole_numbers.proofs.Common.{◌⊎◌, inl, inr, List, [], ◌∷◌, ◌++◌, length, get_or, map, drop, refl, subst, ap}
use Rattle.whole_numbers.proofs.Common.{ap₂, sym, ◌∙◌, arith, ints, by_lt_z, get_or-set_same, get_or-set_other, dot}
use Rattle.whole_numbers.proofs.Common.{zeros, NotNegative, LexLe, LexNotNegative, mul_sub_left, mul_zero_left}
use Rattle.whole_numbers.proofs.Common.{mul_zero_right, mul_comm_int, mul_positive, mul_not_negative, cancel_eq}
use Rattle.whole_numbers.proofs.Common.{dot-nil, get_or-multiples, dite, ℕ_discrete}
use Rattle.whole_numbers.proofs.Order.{mul_opposite, cancel_lt}
use Rattle.tableau_rows.specs.Rows.{Row, entry, Means, Sized}
use Rattle.tableau_rows.proofs.Invariant.{column, crossed, combined, Pivoted, compared}
use Rattle.tableau_rows.proofs.Pivots.{crossed-entry, length-crossed}

-- a positive factor for each place neither makes a list up nor unmakes it
pub up_lowered : (s j : ℕ) (pivot : Row) (rows news : List Row) → Pivoted s pivot rows news
    → LexNotNegative (map (λ (row : Row). entry (combined s pivot row) j) rows) → LexNotNegative (column j news)
up_lowered s j pivot [] [] p up = tt
up_lowered s j pivot [] (new ∷ news) p up = absurd p
up_lowered s j pivot (row ∷ rows) [] p up = absurd p
up_lowered s j pivot (row ∷ rows) (new ∷ news) p up = by_sign (λ h. up_lowered s j pivot rows news p.1 h) up
  where
    is : entry (combined s pivot row) j ≡ p.0.factor *ℤ entry new j
    is = ap (λ (es : List ℤ). get_or es j (pos 0)) p.0.entries ∙ get_or-multiples p.0.factor new.entries j

    by_sign : (LexNotNegative (map (λ (row : Row). entry (combined s pivot row) j) rows) → LexNotNegative
        (column j news))
        → (pos 0 <ℤ entry (combined s pivot row) j)
        ⊎ ((entry (combined s pivot row) j ≡ pos 0)
        × LexNotNegative (map (λ (row : Row). entry (combined s pivot row) j) rows))
        → LexNotNegative (column j (new ∷ news))
    by_sign more (inl l) =
        let k = p.0.factor in
        let positive = p.0.positive in
        let e = is in
        let z = mul_zero_left k in
        inl (cancel_lt (pos 0) (entry new j) k (omega (arith, ints)) (omega (arith, ints)))
    by_sign more (inr h) =
        let k = p.0.factor in
        let e = is in
        let z = mul_zero_left k in
        let n = h.0 in
        inr (cancel_eq (entry new j) (pos 0) k p.0.positive (omega (arith, ints)), more h.1)

-- a multiple by a positive number, and a sum of two multiples by numbers that are not negative
pub up_scaled : (s : ℕ) (rows : List Row) (k : ℤ) → pos 0 <ℤ k → LexNotNegative (column s rows)
    → LexNotNegative (map (λ (row : Row). entry row s *ℤ k) rows)
up_scaled s [] k positive up = tt
up_scaled s (row ∷ rows) k positive (inl l) = inl (mul_positive (entry row s) k l positive)
up_scaled s (row ∷ rows) k positive (inr h) =
    inr (ap (λ (z : ℤ). z *ℤ k) h.0 ∙ mul_zero_left k, up_scaled s rows k positive h.1)

pub up_crossed : (s j : ℕ) (rows : List Row) (a b : ℤ) → pos 0 <ℤ a → b ≤ℤ pos 0 → LexNotNegative (column s rows)
    → LexNotNegative (column j rows)
    → LexNotNegative (map (λ (row : Row). (entry row j *ℤ a) -ℤ (entry row s *ℤ b)) rows)
up_crossed s j [] a b ha hb us uj = tt
up_crossed s j (row ∷ rows) a b ha hb (inl l) (inl m) =
    let c = mul_positive (entry row j) a m ha in
    let d = turned (entry row s) b l hb in
    inl (omega (arith, ints))
  where
    turned : (x b : ℤ) → pos 0 <ℤ x → b ≤ℤ pos 0 → (x *ℤ b) ≤ℤ pos 0
    turned x b l h = mul_opposite x b (omega (arith, ints)) h
up_crossed s j (row ∷ rows) a b ha hb (inr h) (inl m) =
    let c = mul_positive (entry row j) a m ha in
    let d = ap (λ (z : ℤ). z *ℤ b) h.0 in
    let z = mul_zero_left b in
    inl (omega (arith, ints))
up_crossed s j (row ∷ rows) a b ha hb (inl l) (inr m) =
    let c = ap (λ (z : ℤ). z *ℤ a) m.0 in
    let z = mul_zero_left a in
    by_lt_z b (pos 0)
    (λ (less : b <ℤ pos 0).
    let d = mul_positive (entry row s) (pos 0 -ℤ b) l (omega (arith, ints)) in
    let e = mul_sub_left (pos 0) b (entry row s) in
    let f = mul_zero_right (entry row s) in
    inl (omega (arith, ints)))
    (λ (more : pos 0 ≤ℤ b).
    let n : b ≡ pos 0 = omega (arith, ints) in
    let d = ap (λ (z : ℤ). entry row s *ℤ z) n in
    let f = mul_zero_right (entry row s) in
    inr (omega (arith, ints), zero_crossed s j rows a b ha n m.1))
  where
    zero_crossed : (s j : ℕ) (rows : List Row) (a b : ℤ) → pos 0 <ℤ a → b ≡ pos 0 → LexNotNegative (column j rows)
        → LexNotNegative (map (λ (row : Row). (entry row j *ℤ a) -ℤ (entry row s *ℤ b)) rows)
    zero_crossed s j [] a b ha n uj = tt
    zero_crossed s j (row ∷ rows) a b ha n (inl l) =
        let c = mul_positive (entry row j) a l ha in
        let d = ap (λ (z : ℤ). entry row s *ℤ z) n in
        let f = mul_zero_right (entry row s) in
        inl (omega (arith, ints))
    zero_crossed s j (row ∷ rows) a b ha n (inr h) =
        let c = ap (λ (z : ℤ). z *ℤ a) h.0 in
        let z = mul_zero_left a in
        let d = ap (λ (z : ℤ). entry row s *ℤ z) n in
        let f = mul_zero_right (entry row s) in
        inr (omega (arith, ints), zero_crossed s j rows a b ha n h.1)
up_crossed s j (row ∷ rows) a b ha hb (inr h) (inr m) =
    let c = ap (λ (z : ℤ). z *ℤ a) m.0 in
    let z = mul_zero_left a in
    let d = ap (λ (z : ℤ). z *ℤ b) h.0 in
    let f = mul_zero_left b in
    inr (omega (arith, ints), up_crossed s j rows a b ha hb h.1 m.1)

-- the entries of a combined row
pub combined-at : (s : ℕ) (pivot row : Row) → length row.entries ≡ length pivot.entries → s < length pivot.entries
    → entry (combined s pivot row) s ≡ entry row s *ℤ pivot.denominator
combined-at s pivot row same within =
    get_or-set_same (crossed (entry pivot s) (entry row s) row.entries pivot.entries) s
    (entry row s *ℤ pivot.denominator) (pos 0)
    (omega (arith, length-crossed (entry pivot s) (entry row s) row.entries pivot.entries same))

pub combined-else : (s j : ℕ) (pivot row : Row) → length row.entries ≡ length pivot.entries → j ≢ s
    → entry (combined s pivot row) j ≡ (entry row j *ℤ entry pivot s) -ℤ (entry row s *ℤ entry pivot j)
combined-else s j pivot row same ne =
    get_or-set_other (crossed (entry pivot s) (entry row s) row.entries pivot.entries) s j
    (entry row s *ℤ pivot.denominator) (pos 0) ne
    ∙ crossed-entry (entry pivot s) (entry row s) row.entries pivot.entries j same

-- the columns behind a pivot
pub column_at : (m s : ℕ) (pivot : Row) (rows : List Row) → Sized m rows → length pivot.entries ≡ m → s < m
    → map (λ (row : Row). entry (combined s pivot row) s) rows ≡ map (λ (row : Row). entry row s *ℤ pivot.denominator)
    rows
column_at m s pivot [] sizes same within = refl
column_at m s pivot (row ∷ rows) sizes same within =
    ap₂ (λ (z : ℤ) (zs : List ℤ). z ∷ zs) (combined-at s pivot row (sizes.1 ∙ sym same) (omega arith))
    (column_at m s pivot rows sizes.2 same within)

pub column_else : (m s j : ℕ) (pivot : Row) (rows : List Row) → Sized m rows → length pivot.entries ≡ m → j ≢ s
    → map (λ (row : Row). entry (combined s pivot row) j) rows ≡ compared s j pivot rows
column_else m s j pivot [] sizes same ne = refl
column_else m s j pivot (row ∷ rows) sizes same ne =
    ap₂ (λ (z : ℤ) (zs : List ℤ). z ∷ zs) (combined-else s j pivot row (sizes.1 ∙ sym same) ne)
    (column_else m s j pivot rows sizes.2 same ne)

-- a pivot in the least column keeps a column up
pub pivot_up : (m s j : ℕ) (pivot : Row) (rows news : List Row) → Pivoted s pivot rows news → Sized m rows
    → length pivot.entries ≡ m → s < m
    → pos 0 <ℤ pivot.denominator → pos 0 <ℤ entry pivot s
    → (pos 0 <ℤ entry pivot j → LexNotNegative (compared s j pivot rows))
    → LexNotNegative (column s rows) → LexNotNegative (column j rows) → LexNotNegative (column j news)
pivot_up m s j pivot rows news p sizes same within positive here chosen us uj =
    dite (ℕ_discrete j s)
    (λ (e : j ≡ s).
    subst (λ (k : ℕ). LexNotNegative (column k news)) (sym e)
    (up_lowered s s pivot rows news p
    (subst LexNotNegative (sym (column_at m s pivot rows sizes same within))
    (up_scaled s rows pivot.denominator positive us))))
    (λ (ne : j ≢ s).
    up_lowered s j pivot rows news p
    (subst LexNotNegative (sym (column_else m s j pivot rows sizes same ne))
    (by_lt_z (pos 0) (entry pivot j)
    (λ (l : pos 0 <ℤ entry pivot j). chosen l)
    (λ (l : entry pivot j ≤ℤ pos 0). up_crossed s j rows (entry pivot s) (entry pivot j) here l us uj))))

pub dot_split : (j : ℕ) (es : List ℤ) (y : ℤ) (ys : List ℤ)
    → dot (drop j es) (y ∷ ys) ≡ (get_or es j (pos 0) *ℤ y) +ℤ dot (drop (suc j) es) ys
dot_split zero [] y ys = let z = mul_zero_left y in omega (arith, ints)
dot_split zero (e ∷ es) y ys = refl
dot_split (suc j) [] y ys = let z = mul_zero_left y in omega (arith, ints)
dot_split (suc j) (e ∷ es) y ys = dot_split j es y ys

-- what the columns from j on add to rows at values that are not negative
pub up_dots : (j : ℕ) (rows : List Row) (ys : List ℤ)
    → ((i : ℕ) → j ≤ i → i < j + length ys → LexNotNegative (column i rows)) → NotNegative ys
    → LexNotNegative (map (λ (row : Row). dot (drop j row.entries) ys) rows)
up_dots j rows [] ups not = all_zero rows
  where
    all_zero : (rows : List Row) → LexNotNegative (map (λ (row : Row). dot (drop j row.entries) []) rows)
    all_zero [] = tt
    all_zero (row ∷ rows) = inr (dot-nil (drop j row.entries), all_zero rows)
up_dots j rows (y ∷ ys) ups not =
    added rows (ups j (omega arith) (omega arith))
    (up_dots (suc j) rows ys (λ i low high. ups i (omega arith) (omega arith)) not.1)
  where
    split : (row : Row) → dot (drop j row.entries) (y ∷ ys) ≡ (entry row j *ℤ y) +ℤ dot (drop (suc j) row.entries) ys
    split row = dot_split j row.entries y ys

    times : (z y : ℤ) → pos 0 <ℤ z → pos 0 ≤ℤ y → pos 0 ≤ℤ (z *ℤ y)
    times z y l h = mul_not_negative z y (omega (arith, ints)) h

    none : (rows : List Row) → y ≡ pos 0 → LexNotNegative (map (λ (row : Row). dot (drop (suc j) row.entries) ys) rows)
        → LexNotNegative (map (λ (row : Row). dot (drop j row.entries) (y ∷ ys)) rows)
    none [] e up = tt
    none (row ∷ rows) e (inl l) =
        let s = split row in
        let f = ap (λ (z : ℤ). entry row j *ℤ z) e in
        let g = mul_zero_right (entry row j) in
        inl (omega (arith, ints))
    none (row ∷ rows) e (inr h) =
        let s = split row in
        let f = ap (λ (z : ℤ). entry row j *ℤ z) e in
        let g = mul_zero_right (entry row j) in
        let i = h.0 in
        inr (omega (arith, ints), none rows e h.1)

    added : (rows : List Row) → LexNotNegative (column j rows)
        → LexNotNegative (map (λ (row : Row). dot (drop (suc j) row.entries) ys) rows)
        → LexNotNegative (map (λ (row : Row). dot (drop j row.entries) (y ∷ ys)) rows)
    added [] col rest = tt
    added (row ∷ rows) (inl l) (inl m) =
        let s = split row in
        let t = times (entry row j) y l not.0 in
        inl (omega (arith, ints))
    added (row ∷ rows) (inl l) (inr m) =
        let s = split row in
        by_lt_z (pos 0) y
        (λ (h : pos 0 <ℤ y). let t = mul_positive (entry row j) y l h in let n = m.0 in inl (omega (arith, ints)))
        (λ (h : y ≤ℤ pos 0). let zero : y ≡ pos 0 = let k = not.0 in omega (arith, ints) in none (row ∷ rows) zero
        (inr m))
    added (row ∷ rows) (inr h) (inl m) =
        let s = split row in
        let f = ap (λ (z : ℤ). z *ℤ y) h.0 in
        let g = mul_zero_left y in
        inl (omega (arith, ints))
    added (row ∷ rows) (inr h) (inr m) =
        let s = split row in
        let f = ap (λ (z : ℤ). z *ℤ y) h.0 in
        let g = mul_zero_left y in
        let n = m.0 in
        inr (omega (arith, ints), added rows h.1 m.1)

-- the columns' values stand apart from what is behind them
pub dot_apart : (es ys t : List ℤ) → dot es (ys ++ t) ≡ dot es (zeros (length ys) ++ t) +ℤ dot es ys
dot_apart [] ys t = omega (arith, ints)
dot_apart (e ∷ es) [] t = omega (arith, ints)
dot_apart (e ∷ es) (y ∷ ys) t =
    let more = dot_apart es ys t in
    let z = mul_zero_right e in
    omega (arith, ints)

-- with each column up, what the rows give where the columns are 0 is the least that they give
pub least_at_zero : (rows : List Row) (ys t xs zs : List ℤ) (m : ℕ) → Sized m rows → length xs ≡ length rows
    → length zs ≡ length rows
    → Means rows (zeros (length ys) ++ t) xs → Means rows (ys ++ t) zs
    → LexNotNegative (map (λ (row : Row). dot (drop 0 row.entries) ys) rows) → LexLe xs zs
least_at_zero rows ys t [] zs m sizes hx hz mx mz up = tt
least_at_zero [] ys t (x ∷ xs) zs m sizes hx hz mx mz up = absurd mx
least_at_zero (row ∷ rows) ys t (x ∷ xs) [] m sizes hx hz mx mz up = absurd (omega arith)
least_at_zero (row ∷ rows) ys t (x ∷ xs) (z ∷ zs) m sizes hx hz mx mz (inl l) =
    let d = row.denominator in
    let a = dot_apart row.entries ys t in
    let b = mx.0 in
    let c = mz.0 in
    let e = mul_comm_int d x in
    let f = mul_comm_int d z in
    let positive = sizes.0 in
    inl (cancel_lt x z d (omega (arith, ints)) (omega (arith, ints)))
least_at_zero (row ∷ rows) ys t (x ∷ xs) (z ∷ zs) m sizes hx hz mx mz (inr h) =
    let d = row.denominator in
    let a = dot_apart row.entries ys t in
    let b = mx.0 in
    let c = mz.0 in
    let e = mul_comm_int d x in
    let f = mul_comm_int d z in
    let n = h.0 in
    inr (
      cancel_eq x z d sizes.0 (omega (arith, ints)),
      least_at_zero rows ys t xs zs m sizes.2 (omega arith)
          (omega arith) mx.1 mz.1 h.1,
    )
