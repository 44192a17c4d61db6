-- A buffer's rows, looked through one after the other; the next line fits.
use Rattle.whole_numbers.proofs.Common.{◌≡◌, ℕ, zero, suc, ◌+◌, ◌*◌, ◌<◌, ◌≤◌, ℤ, pos, negsuc, ◌<ℤ◌, ◌≤ℤ◌, ◌-ℤ◌, Bool}
use Rattle.whole_numbers.proofs.Common.{true, false, List, [], ◌∷◌, ◌++◌, length, get_or, drop, take, refl, subst, ap}
use Rattle.whole_numbers.proofs.Common.{sym, arith, Option, Some, Result, Ok, if◌then◌else◌, ints, suc-mul}
use Rattle.whole_numbers.proofs.Common.{take-append_seam, drop-append_seam, remainder, remainder_is}
use Rattle.std.proofs.lemmas.List.{length-append}
use Rattle.wide_math.specs.declared.Wide.{Wide}
use Rattle.wide_math.specs.Checked.{product_of, ◌>>=◌}
use Rattle.tableau_rows.specs.Rows.{Row, entry}
use Rattle.tableau_rows.specs.Moves.{line_row, rows_in, is_below, is_positive, precedes_run, better_run, column_run}
use Rattle.tableau_rows.specs.Moves.{HeadsPositive}
use Rattle.tableau_rows.specs.Run.{first_row, some_positive}
use Rattle.tableau_rows.proofs.Lines.{entry_at}

-- the rows of a buffer that begins with a row
pub rows_more : (stride left k : ℕ) (rest row others : List ℤ) → k ≡ suc left → rest ≡ row ++ others
    → length row ≡ stride
    → rows_in stride k rest ≡ line_row row ∷ rows_in stride left others
rows_more stride left k rest row others more parts size =
    let t : take stride (row ++ others) ≡ row =
    subst (λ (i : ℕ). take i (row ++ others) ≡ row) size (take-append_seam row others) in
    let d : drop stride (row ++ others) ≡ others =
    subst (λ (i : ℕ). drop i (row ++ others) ≡ others) size (drop-append_seam row others) in
    rw (more, parts, t, d) refl

pub length_rest : (stride left k : ℕ) (rest row others : List ℤ) → k ≡ suc left → rest ≡ row ++ others
    → length row ≡ stride → length rest ≡ k * stride
    → length others ≡ left * stride
length_rest stride left k rest row others more parts size whole =
    let a = ap (λ (zs : List ℤ). length zs) parts in
    let b = length-append row others in
    let m = suc-mul left stride in
    let e : k * stride ≡ suc left * stride = ap (λ (i : ℕ). i * stride) more in
    omega arith

-- a buffer with lines left has the next one
pub line_ahead : (left stride n : ℕ) → 0 < left → n ≡ left * stride → stride ≤ n
line_ahead zero stride n some size = absurd (omega arith)
line_ahead (suc left) stride n some size = let m = suc-mul left stride in omega arith

pub heads_rest : (stride left k : ℕ) (rest row others : List ℤ) → k ≡ suc left → rest ≡ row ++ others
    → length row ≡ stride → HeadsPositive stride k rest
    → HeadsPositive stride left others
heads_rest stride left k rest row others more parts size heads =
    let h = subst (λ (i : ℕ). HeadsPositive stride i rest) more heads in
    let g = subst (λ (zs : List ℤ). HeadsPositive stride left (drop stride zs)) parts h.1 in
    subst (λ (zs : List ℤ). HeadsPositive stride left zs)
    (subst (λ (k : ℕ). drop k (row ++ others) ≡ others) size (drop-append_seam row others)) g

pub head_here : (stride left k : ℕ) (rest row others : List ℤ) → k ≡ suc left → rest ≡ row ++ others
    → length row ≡ stride → 0 < stride → HeadsPositive stride k rest
    → pos 0 <ℤ get_or row 0 (pos 0)
head_here stride left k rest [] others more parts size some heads = absurd (omega arith)
head_here stride left k rest (x ∷ row) others more parts size some heads =
    let h = subst (λ (i : ℕ). HeadsPositive stride i rest) more heads in
    subst (λ (zs : List ℤ). pos 0 <ℤ get_or zs 0 (pos 0)) parts h.0

-- 1 divides each number
pub by_one : (a d : ℤ) → d ≡ pos 1 → is_positive (remainder a d) ≡ false
by_one a d one =
    let e = remainder_is a d (omega (arith, ints)) in
    let l = e.not_negative in
    let b = e.below in
    not_positive (remainder a d) (omega (arith, ints))
  where
    not_positive : (z : ℤ) → z ≤ℤ pos 0 → is_positive z ≡ false
    not_positive (pos zero) h = refl
    not_positive (pos (suc n)) h = absurd (omega (arith, ints))
    not_positive (negsuc n) h = refl

-- the first row that passes a test
pub first_found : (test : Row → Bool) (i stride left k : ℕ) (rest row others : List ℤ) (run : Option ℕ) → k ≡ suc left
    → rest ≡ row ++ others → length row ≡ stride
    → test (line_row row) ≡ true → first_row test i (rows_in stride k rest) ≡ run → Some i ≡ run
first_found test i stride left k rest row others run more parts size passes kept =
    let m = subst (λ (rs : List Row). first_row test i rs ≡ run)
    (rows_more stride left k rest row others more parts size) kept in
    rw passes at m

pub first_past : (test : Row → Bool) (i j stride left k : ℕ) (rest row others : List ℤ) (run : Option ℕ) → k ≡ suc left
    → j ≡ suc i → rest ≡ row ++ others → length row ≡ stride
    → test (line_row row) ≡ false → first_row test i (rows_in stride k rest) ≡ run
    → first_row test j (rows_in stride left others) ≡ run
first_past test i j stride left k rest row others run more next parts size passes kept =
    let m = subst (λ (rs : List Row). first_row test i rs ≡ run)
    (rows_more stride left k rest row others more parts size) kept in
    let n = rw passes at m in
    subst (λ (p : ℕ). first_row test p (rows_in stride left others) ≡ run) (sym next) n

-- it is one of the rows
pub first_inside : (test : Row → Bool) (i : ℕ) (rows : List Row) (r : ℕ) → first_row test i rows ≡ Some r
    → r < i + length rows
first_inside test i [] r h = cc
first_inside test i (row ∷ rows) r h = by_test (test row) h (λ k. first_inside test (suc i) rows r k)
  where
    by_test : (b : Bool) → (if b then Some i else first_row test (suc i) rows) ≡ Some r
        → (first_row test (suc i) rows ≡ Some r → r < suc i + length rows) → r < i + suc (length rows)
    by_test true h more = let e : i ≡ r = cc in omega arith
    by_test false h more = let l = more h in omega arith

-- a column that is looked at
pub positive_past : (row : Row) (i left k n : ℕ) (run : Bool) → k ≡ suc left → n ≡ suc i
    → is_positive (entry row i) ≡ false → some_positive row i k ≡ run
    → some_positive row n left ≡ run
positive_past row i left k n run more next passes kept =
    let m = subst (λ (j : ℕ). some_positive row i j ≡ run) more kept in
    subst (λ (j : ℕ). some_positive row j left ≡ run) (sym next) (rw passes at m)

-- the comparison of two columns at a row, whose entries in them are x and y, and the rows behind it
abbrev pub compared_run : ℤ → ℤ → ℤ → ℤ → Result Bool Wide → Result Bool Wide
compared_run a b x y rest =
    product_of x b >>= λ new. product_of y a >>= λ old.
    if is_below (new -ℤ old) then Ok true else if is_below (old -ℤ new) then Ok false else rest

pub precedes_here : (a b : ℤ) (j s stride left k : ℕ) (rest row others : List ℤ) (run : Result Bool Wide) → k ≡ suc left
    → rest ≡ row ++ others → length row ≡ stride
    → precedes_run a b j s (rows_in stride k rest) ≡ run
    → compared_run a b (get_or row (j + 1) (pos 0)) (get_or row (s + 1) (pos 0))
    (precedes_run a b j s (rows_in stride left others)) ≡ run
precedes_here a b j s stride left k rest row others run more parts size kept =
    let m = subst (λ (rs : List Row). precedes_run a b j s rs ≡ run)
    (rows_more stride left k rest row others more parts size) kept in
    let behind = precedes_run a b j s (rows_in stride left others) in
    let n = subst (λ (x : ℤ). compared_run a b x (entry (line_row row) s) behind ≡ run) (entry_at row j) m in
    subst (λ (y : ℤ). compared_run a b (get_or row (j + 1) (pos 0)) y behind ≡ run) (entry_at row s) n

below_true : (x y : ℤ) → x <ℤ y → is_below (x -ℤ y) ≡ true
below_true x y h = by_sign (x -ℤ y) (omega (arith, ints))
  where
    by_sign : (z : ℤ) → z <ℤ pos 0 → is_below z ≡ true
    by_sign (pos n) h = absurd (omega (arith, ints))
    by_sign (negsuc n) h = refl

below_false : (x y : ℤ) → y ≤ℤ x → is_below (x -ℤ y) ≡ false
below_false x y h = by_sign (x -ℤ y) (omega (arith, ints))
  where
    by_sign : (z : ℤ) → pos 0 ≤ℤ z → is_below z ≡ false
    by_sign (pos n) h = refl
    by_sign (negsuc n) h = absurd (omega (arith, ints))

-- what a comparison gives at a row whose products are formed
pub here_before : {A : Type 0} (x y : ℤ) (a b c run : A) → x <ℤ y
    → (if is_below (x -ℤ y) then a else if is_below (y -ℤ x) then b else c) ≡ run → a ≡ run
here_before x y a b c run h kept = rw (below_true x y h) at kept

pub here_behind : {A : Type 0} (x y : ℤ) (a b c run : A) → y <ℤ x
    → (if is_below (x -ℤ y) then a else if is_below (y -ℤ x) then b else c) ≡ run → b ≡ run
here_behind x y a b c run h kept = rw (below_false x y (omega (arith, ints)), below_true y x h) at kept

pub here_equal : {A : Type 0} (x y : ℤ) (a b c run : A) → y ≤ℤ x → x ≤ℤ y
    → (if is_below (x -ℤ y) then a else if is_below (y -ℤ x) then b else c) ≡ run → c ≡ run
here_equal x y a b c run h k kept = rw (below_false x y h, below_false y x k) at kept

-- a column with a positive entry is compared with the best so far
pub better-compared : (unknowns : List Row) (pivot : List ℤ) (j s : ℕ) (r : Result Bool Wide)
    → is_positive (entry (line_row pivot) j) ≡ true
    → r ≡ precedes_run (get_or pivot (j + 1) (pos 0)) (get_or pivot (s + 1) (pos 0)) j s unknowns
    → better_run unknowns (line_row pivot) j (Some s) ≡ (r >>= λ first. Ok (Some (if first then j else s)))
better-compared unknowns pivot j s r passes is =
    rw passes
    (subst (λ (x : ℤ). (precedes_run x (entry (line_row pivot) s) j s unknowns >>= λ first. Ok
    (Some (if first then j else s))) ≡ (r >>= λ first. Ok (Some (if first then j else s)))) (sym (entry_at pivot j))
    (subst (λ (y : ℤ). (precedes_run (get_or pivot (j + 1) (pos 0)) y j s unknowns >>= λ first. Ok
    (Some (if first then j else s))) ≡ (r >>= λ first. Ok (Some (if first then j else s)))) (sym (entry_at pivot s))
    (ap (λ (q : Result Bool Wide). q >>= λ first. Ok (Some (if first then j else s))) (sym is))))

-- a column that is tried
pub column_past : (unknowns : List Row) (pivot : Row) (i n left k : ℕ) (best next : Option ℕ)
    (run : Result (Option ℕ) Wide) → k ≡ suc left → n ≡ suc i
    → better_run unknowns pivot i best ≡ Ok next → column_run unknowns pivot k i best ≡ run
    → column_run unknowns pivot left n next ≡ run
column_past unknowns pivot i n left k best next run more following is kept =
    let m = subst (λ (j : ℕ). column_run unknowns pivot j i best ≡ run) more kept in
    let f : Option ℕ → Result (Option ℕ) Wide = λ next. column_run unknowns pivot left (suc i) next in
    let s = subst (λ (r : Result (Option ℕ) Wide). (r >>= f) ≡ run) is m in
    subst (λ (j : ℕ). column_run unknowns pivot left j next ≡ run) (sym following) s
