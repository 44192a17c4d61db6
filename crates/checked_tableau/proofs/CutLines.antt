-- The cut in the parts that the code takes.
use Rattle.whole_numbers.proofs.Common.{◌≡◌, ℕ, zero, suc, ◌+◌, ℤ, pos, negsuc, neg_ℤ, ◌+ℤ◌, ◌<ℤ◌, ◌≤ℤ◌, set, List, []}
use Rattle.whole_numbers.proofs.Common.{◌∷◌, ◌++◌, length, get_or, drop, map, refl, subst, ap, sym, ◌∙◌, arith, Option}
use Rattle.whole_numbers.proofs.Common.{Some, None, Result, Ok, Err, ints, get_or-append-add, remainder, lowest}
use Rattle.wide_math.proofs.Steps.{chain-ok}
use Rattle.tableau_rows.proofs.Cuts.{remainder_in}
use Rattle.wide_math.specs.declared.Wide.{Wide}
use Rattle.wide_math.specs.Checked.{difference_of, ◌>>=◌}
use Rattle.affine_forms.specs.Runs.{map_run}
use Rattle.tableau_rows.specs.Moves.{cut_entries_run, tied, cut_run, lowest_row, line_row}
use Rattle.tableau_rows.specs.Rows.{Row, row_of}
use Rattle.checked_tableau.specs.Lines.{turned_run, cut_line_run, behind_constant, behind_columns}

turned_behind : (d : ℤ) (bs : List ℤ) → cut_entries_run 0 d bs ≡ map_run (turned_run d) bs
unfolding turned_run
turned_behind d [] = refl
turned_behind d (b ∷ bs) = rw (turned_behind d bs) (by_cases (difference_of (pos 0) b) (map_run (turned_run d) bs))
  where
    by_cases : (p : Result ℤ Wide) (q : Result (List ℤ) Wide)
        → (p >>= λ m. q >>= λ zs. Ok (neg_ℤ (remainder m d) ∷ zs))
        ≡ ((p >>= λ m. Ok (neg_ℤ (remainder m d))) >>= λ z. q >>= λ zs. Ok (z ∷ zs))
    by_cases (Err w) q = refl
    by_cases (Ok m) q = refl

columns_apart : (n : ℕ) (d : ℤ) (columns part : List ℤ) → length columns ≡ n
    → cut_entries_run n d (columns ++ part) ≡
    (map_run (turned_run d) part >>= λ zs. Ok (map (λ z. remainder z d) columns ++ zs))
columns_apart zero d [] part h = turned_behind d part ∙ same (map_run (turned_run d) part)
  where
    same : (q : Result (List ℤ) Wide) → q ≡ (q >>= λ zs. Ok zs)
    same (Ok zs) = refl
    same (Err w) = refl
columns_apart zero d (a ∷ columns) part h = absurd (omega arith)
columns_apart (suc n) d [] part h = absurd (omega arith)
columns_apart (suc n) d (a ∷ columns) part h =
    ap (λ (r : Result (List ℤ) Wide). r >>= λ zs. Ok (remainder a d ∷ zs))
    (columns_apart n d columns part (omega arith))
    ∙ by_cases (map_run (turned_run d) part)
  where
    by_cases : (q : Result (List ℤ) Wide)
        → ((q >>= λ zs. Ok (map (λ z. remainder z d) columns ++ zs)) >>= λ zs. Ok (remainder a d ∷ zs))
        ≡ (q >>= λ zs. Ok (remainder a d ∷ (map (λ z. remainder z d) columns ++ zs)))
    by_cases (Ok zs) = refl
    by_cases (Err w) = refl

-- the line before its cut is brought to lowest terms
pub cut_line_run-parts : (n : ℕ) (place : Option ℕ) (line head entries columns part : List ℤ) → line ≡ head ++ entries
    → length head ≡ 1 → entries ≡ columns ++ part → length columns ≡ n
    → cut_line_run n place line
    ≡ (map_run (turned_run (get_or head 0 (pos 0))) part >>= λ zs. Ok
    (lowest (head ++ tied (get_or head 0 (pos 0)) place
    (map (λ z. remainder z (get_or head 0 (pos 0))) columns ++ zs))))
unfolding cut_line_run
cut_line_run-parts n place line [] entries columns part is one apart size = absurd (omega arith)
cut_line_run-parts n place line (d ∷ e ∷ head) entries columns part is one apart size = absurd (omega arith)
cut_line_run-parts n place line (d ∷ []) entries columns part is one apart size =
    let whole : line ≡ d ∷ (columns ++ part) = is ∙ ap (λ (es : List ℤ). d ∷ es) apart in
    let e = ap (λ (q : Result (List ℤ) Wide). q >>= λ es. Ok (lowest (d ∷ tied d place es)))
    (columns_apart n d columns part size) in
    subst (λ (l : List ℤ). cut_line_run n place l
    ≡ (map_run (turned_run d) part >>= λ zs.
    Ok (lowest (d ∷ tied d place (map (λ z. remainder z d) columns ++ zs)))))
    (sym whole) (e ∙ by_cases (map_run (turned_run d) part))
  where
    by_cases : (q : Result (List ℤ) Wide)
        → ((q >>= λ zs. Ok (map (λ z. remainder z d) columns ++ zs)) >>= λ es. Ok (lowest (d ∷ tied d place es)))
        ≡ (q >>= λ zs. Ok (lowest (d ∷ tied d place (map (λ z. remainder z d) columns ++ zs))))
    by_cases (Ok zs) = refl
    by_cases (Err w) = refl

pub cut_line-err : (n : ℕ) (place : Option ℕ) (line : List ℤ) (q : Result (List ℤ) Wide) (f : List ℤ → List ℤ)
    (w : Wide) → cut_line_run n place line ≡ (q >>= λ zs. Ok (f zs)) → q ≡ Err w
    → cut_line_run n place line ≡ Err w
cut_line-err n place line q f w is failed = rw failed at is

pub cut_line-ok : (n : ℕ) (place : Option ℕ) (line : List ℤ) (q : Result (List ℤ) Wide) (f : List ℤ → List ℤ)
    (zs new : List ℤ) → cut_line_run n place line ≡ (q >>= λ zs. Ok (f zs)) → q ≡ Ok zs
    → new ≡ f zs → cut_line_run n place line ≡ Ok new
cut_line-ok n place line q f zs new is formed made = rw (← made) at (rw formed at is)

-- the number in front, in the parts that the code takes
pub head_positive : (line head entries : List ℤ) → line ≡ head ++ entries → length head ≡ 1
    → pos 0 <ℤ get_or line 0 (pos 0) → pos 0 <ℤ get_or head 0 (pos 0)
head_positive line [] entries is one positive = absurd (omega arith)
head_positive line (d ∷ head) entries is one positive =
    subst (λ (zs : List ℤ). pos 0 <ℤ get_or zs 0 (pos 0)) is positive

pub front_positive : (head entries : List ℤ) → length head ≡ 1 → pos 0 <ℤ get_or head 0 (pos 0)
    → pos 0 <ℤ get_or (head ++ entries) 0 (pos 0)
front_positive [] entries one positive = absurd (omega arith)
front_positive (d ∷ head) entries one positive = positive

-- what the opposites leave, turned, is not positive
neg_low : (z : ℤ) → pos 0 ≤ℤ z → neg_ℤ z ≤ℤ pos 0
neg_low (pos zero) h = omega (arith, ints)
neg_low (pos (suc n)) h = omega (arith, ints)
neg_low (negsuc n) h = absurd (omega (arith, ints))

turned_low : (d x y : ℤ) → pos 0 <ℤ d → turned_run d x ≡ Ok y → y ≤ℤ pos 0
unfolding turned_run
turned_low d x y positive run =
    let c = chain-ok (difference_of (pos 0) x) (λ (m : ℤ). Ok (neg_ℤ (remainder m d))) y run in
    let e : neg_ℤ (remainder c.0 d) ≡ y = cc (c.2) in
    subst (λ (z : ℤ). z ≤ℤ pos 0) e (neg_low (remainder c.0 d) (remainder_in c.0 d positive).0)

pub all_turned_low : (d : ℤ) (xs zs : List ℤ) → pos 0 <ℤ d → map_run (turned_run d) xs ≡ Ok zs → (k : ℕ)
    → get_or zs k (pos 0) ≤ℤ pos 0
all_turned_low d [] zs positive run k =
    let e : [] ≡ zs = cc in subst (λ (ws : List ℤ). get_or ws k (pos 0) ≤ℤ pos 0) e (omega (arith, ints))
all_turned_low d (x ∷ xs) zs positive run k =
    let c = chain-ok (turned_run d x) (λ (y : ℤ). map_run (turned_run d) xs >>= λ ys. Ok (y ∷ ys)) zs run in
    let f = chain-ok (map_run (turned_run d) xs) (λ (ys : List ℤ). Ok (c.0 ∷ ys)) zs c.2 in
    let e : c.0 ∷ f.0 ≡ zs = cc (f.2) in
    subst (λ (ws : List ℤ). get_or ws k (pos 0) ≤ℤ pos 0) e
    (by_place k c.0 f.0 (turned_low d x c.0 positive c.1) (λ j. all_turned_low d xs f.0 positive f.1 j))
  where
    by_place : (k : ℕ) (y : ℤ) (ys : List ℤ) → y ≤ℤ pos 0 → ((j : ℕ) → get_or ys j (pos 0) ≤ℤ pos 0)
        → get_or (y ∷ ys) k (pos 0) ≤ℤ pos 0
    by_place zero y ys here more = here
    by_place (suc k) y ys here more = more k

-- a tie behind the columns
pub tied-behind : (n : ℕ) (d : ℤ) (columns part : List ℤ) (parameter : Option ℕ) → length columns ≡ n
    → tied d (behind_columns n parameter) (columns ++ part) ≡ columns ++ tied d (behind_constant parameter) part
tied-behind n d columns part None size = refl
tied-behind n d columns part (Some k) size =
    let e : n + 1 + k ≡ length columns + (k + 1) = omega arith in
    ap (λ (i : ℕ). set (columns ++ part) i (get_or (columns ++ part) i (pos 0) +ℤ d)) e
    ∙ ap (λ (z : ℤ). set (columns ++ part) (length columns + (k + 1)) (z +ℤ d))
    (get_or-append-add columns part (k + 1) (pos 0))
    ∙ set-append-add columns part (k + 1) (get_or part (k + 1) (pos 0) +ℤ d)
  where
    set-append-add : (xs ys : List ℤ) (i : ℕ) (z : ℤ) → set (xs ++ ys) (length xs + i) z ≡ xs ++ set ys i z
    set-append-add [] ys i z = let e : 0 + i ≡ i = omega arith in ap (λ (j : ℕ). set ys j z) e
    set-append-add (x ∷ xs) ys i z =
        let e : suc (length xs) + i ≡ suc (length xs + i) = omega arith in
        ap (λ (j : ℕ). set (x ∷ (xs ++ ys)) j z) e ∙ ap (λ (zs : List ℤ). x ∷ zs) (set-append-add xs ys i z)

-- the cut on a row
pub cut-line : (n : ℕ) (place : Option ℕ) (line : List ℤ)
    → cut_run n place (line_row line) ≡ (cut_line_run n place line >>= λ zs. Ok (line_row zs))
unfolding cut_run cut_line_run lowest_row
cut-line n place line = by_cases (cut_entries_run n (get_or line 0 (pos 0)) (drop 1 line))
  where
    by_cases : (q : Result (List ℤ) Wide)
        → (q >>= λ es. Ok (lowest_row (row_of (get_or line 0 (pos 0)) (tied (get_or line 0 (pos 0)) place es))))
        ≡ ((q >>= λ es. Ok (lowest (get_or line 0 (pos 0) ∷ tied (get_or line 0 (pos 0)) place es))) >>= λ zs.
        Ok (line_row zs))
    by_cases (Ok es) = refl
    by_cases (Err w) = refl

pub cut_row-ok : (n : ℕ) (place : Option ℕ) (line new : List ℤ) (row : Row) → line_row line ≡ row
    → cut_line_run n place line ≡ Ok new → cut_run n place row ≡ Ok (line_row new)
cut_row-ok n place line new row is run =
    subst (λ (r : Row). cut_run n place r ≡ Ok (line_row new)) is
    (cut-line n place line ∙ ap (λ (q : Result (List ℤ) Wide). q >>= λ zs. Ok (line_row zs)) run)

pub cut_row-err : (n : ℕ) (place : Option ℕ) (line : List ℤ) (row : Row) (w : Wide) → line_row line ≡ row
    → cut_line_run n place line ≡ Err w → cut_run n place row ≡ Err w
cut_row-err n place line row w is run =
    subst (λ (r : Row). cut_run n place r ≡ Err w) is
    (cut-line n place line ∙ ap (λ (q : Result (List ℤ) Wide). q >>= λ zs. Ok (line_row zs)) run)
