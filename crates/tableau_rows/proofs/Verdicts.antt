-- A run without parameters that ends says what is so.
use Rattle.whole_numbers.proofs.Common.{◌≡◌, ◌≢◌, ℕ, zero, suc, ◌+◌, ◌<◌, ◌≤◌, ℤ, pos, ◌-ℤ◌, ◌≤ℤ◌, ◌<ℤ◌, Bool, true}
use Rattle.whole_numbers.proofs.Common.{false, Option, Some, None, List, [], ◌∷◌, ◌++◌, length, get_or, drop, take}
use Rattle.whole_numbers.proofs.Common.{refl, subst, ap, sym, ◌∙◌, arith, Result, Ok, Err, if◌then◌else◌, ints}
use Rattle.whole_numbers.proofs.Common.{length-take-le, take-append-drop, dite, ℕ_discrete, remainder, dot-nil, dot}
use Rattle.whole_numbers.proofs.Common.{zeros, Affine, IsFloor, LexLe, mul_one_right, mul_zero_left, mul_zero_right}
use Rattle.whole_numbers.proofs.Common.{LexLess-irrefl}
use Rattle.whole_numbers.proofs.Lexicographic.{LexLess-from_le}
use Rattle.affine_forms.specs.Wide.{Wide}
use Rattle.affine_forms.proofs.CheckedSteps.{chain-ok}
use Rattle.tableau_rows.specs.Rows.{Row, entry, Means, Sized}
use Rattle.tableau_rows.specs.Moves.{is_positive, row_at, cut_run, cut_entries}
use Rattle.tableau_rows.specs.Problem.{first_rows, Speaks}
use Rattle.tableau_rows.specs.Run.{Verdict, point, none, Step, ends, pivots, cuts, first_row, some_positive, has_below}
use Rattle.tableau_rows.specs.Run.{has_fraction, quotients, cut_or_end, pivot_or_cut, next, moved, Outcome, go_on}
use Rattle.tableau_rows.specs.Run.{at_spent, after, run, question, IsRight}
use Rattle.tableau_rows.proofs.Invariant.{IsInside, Stands}
use Rattle.tableau_rows.proofs.PivotColumns.{below_true, below_false, positive_false}
use Rattle.tableau_rows.proofs.Cuts.{remainder_in, cut_constant}
use Rattle.tableau_rows.proofs.KeptInvariant.{stands_pivot_run, stands_cut, Settled, leaf_inside, leaf_least}
use Rattle.tableau_rows.proofs.KeptInvariant.{empty_right}
use Rattle.tableau_rows.proofs.Points.{means_longer, sized_take, sized_at}
use Rattle.tableau_rows.proofs.FirstTableau.{stands_first, inside_point, point_inside, givens_of}

-- the first row that passes, or all fail
abbrev pub AllFail : (Row → Bool) → List Row → Type 0
AllFail test [] = Unit {0}
AllFail test (row ∷ rows) = (test row ≡ false) × AllFail test rows

abbrev pub IsFirst : (Row → Bool) → ℕ → List Row → Option ℕ → Type 0
IsFirst test i rows None = AllFail test rows
IsFirst test i rows (Some k) = (j : ℕ) × (j < length rows) × (k ≡ i + j) × (test (row_at rows j) ≡ true)

pub first_row-says : (test : Row → Bool) (i : ℕ) (rows : List Row) → IsFirst test i rows (first_row test i rows)
first_row-says test i [] = tt
first_row-says test i (row ∷ rows) =
    by_test (test row) refl (first_row test (suc i) rows) (first_row-says test (suc i) rows)
  where
    by_test : (b : Bool) → test row ≡ b → (rest : Option ℕ) → IsFirst test (suc i) rows rest
        → IsFirst test i (row ∷ rows) (if b then Some i else rest)
    by_test true e rest is = (0, omega arith, omega arith, e)
    by_test false e None is = (e, is)
    by_test false e (Some k) is = (suc is.0, omega (arith, is.1), omega (arith, is.2), is.3)

pub some_positive-false : (row : Row) (j k : ℕ) → some_positive row j k ≡ false → (i : ℕ) → j ≤ i → i < j + k
    → entry row i ≤ℤ pos 0
some_positive-false row j zero h i low high = absurd (omega arith)
some_positive-false row j (suc k) h i low high =
    by_entry (is_positive (entry row j)) refl h (λ g l. some_positive-false row (suc j) k g i l (omega arith))
  where
    by_entry : (b : Bool) → is_positive (entry row j) ≡ b → (if b then true else some_positive row (suc j) k) ≡ false
        → (some_positive row (suc j) k ≡ false → suc j ≤ i → entry row i ≤ℤ pos 0) → entry row i ≤ℤ pos 0
    by_entry true e h more = cc
    by_entry false e h more = dite (ℕ_discrete i j)
        (λ (f : i ≡ j). subst (λ (k : ℕ). entry row k ≤ℤ pos 0) (sym f) (positive_false (entry row j) e))
        (λ (ne : i ≢ j). more h (omega arith))

-- a row's part without parameters is its constant
pub dot-constant : (n : ℕ) (es : List ℤ) → dot es (zeros n ++ pos 1 ∷ []) ≡ get_or es n (pos 0)
dot-constant n [] = refl
dot-constant zero (e ∷ es) = let a = mul_one_right e in let b = dot-nil es in omega (arith, ints)
dot-constant (suc n) (e ∷ es) = let a = mul_zero_right e in let b = dot-constant n es in omega (arith, ints)

pub settled_rows : (n : ℕ) (rows : List Row) → AllFail (has_below n) rows → Settled n [] rows
settled_rows n [] h = tt
settled_rows n (row ∷ rows) h = (
  let l = below_false (entry row n) h.0 in let e = dot-constant n row.entries in omega (arith, ints),
  settled_rows n rows h.1,
)

pub quotients_mean : (m n : ℕ) (rows : List Row) → Sized m rows → AllFail (has_fraction n) rows
    → Means rows (zeros n ++ pos 1 ∷ []) (quotients n rows)
quotients_mean m n [] sized h = tt
quotients_mean m n (row ∷ rows) sized h = (
  let l = positive_false (remainder (entry row n) row.denominator) h.0 in
      let k = (remainder_in (entry row n) row.denominator sized.0).0 in
      let e = dot-constant n row.entries in omega (arith, ints),
  quotients_mean m n rows sized.2 h.1,
)

pub length-quotients : (n : ℕ) (rows : List Row) → length (quotients n rows) ≡ length rows
length-quotients n [] = refl
length-quotients n (row ∷ rows) = let more = length-quotients n rows in omega arith

-- what a verdict says of given rows
abbrev pub Holds : ℕ → List (List ℤ) → List ℤ → Verdict → Type 0
Holds n givens p (point xs) = IsInside n givens p xs × ((zs : List ℤ) → IsInside n givens p zs → LexLe xs zs)
Holds n givens p none = (xs : List ℤ) → IsInside n givens p xs → ⊥

-- what a step says
abbrev pub IsStep : ℕ → List (List ℤ) → List Row → Step → Type 0
IsStep n givens rows (ends v) = Holds n givens [] v
IsStep n givens rows (pivots r) = r < length rows
IsStep n givens rows (cuts i) = i < n

pub next-says : (n : ℕ) (givens : List (List ℤ)) (rows : List Row) → Stands n givens rows []
    → IsStep n givens rows (next n rows)
unfolding next
next-says n givens rows stands = pivoting (first_row (has_below n) 0 rows) (first_row-says (has_below n) 0 rows)
  where
    cutting : AllFail (has_below n) rows → (r : Option ℕ) → IsFirst (has_fraction n) 0 (take n rows) r
        → IsStep n givens rows (cut_or_end n rows r)
    cutting fail None whole =
        let us = take n rows in
        let xs = quotients n us in
        let count = length-take-le n rows stands.many in
        let size : length xs ≡ n = length-quotients n us ∙ count in
        let means = quotients_mean (n + 1 + 0) n us (sized_take n (n + 1 + 0) rows stands.sized) whole in
        let all = subst (λ (rs : List Row). Means rs (zeros n ++ pos 1 ∷ []) xs) (take-append-drop n rows)
        (means_longer us (drop n rows) (zeros n ++ pos 1 ∷ []) xs means) in (
          leaf_inside n givens rows [] xs stands (settled_rows n rows fail) size all,
          λ zs inside. leaf_least n givens rows [] xs zs stands size all inside,
        )
    cutting fail (Some k) is =
        let l = is.1 in let e = is.2 in let count = length-take-le n rows stands.many in omega arith

    negative : (r : ℕ) → r < length rows → has_below n (row_at rows r) ≡ true → (b : Bool)
        → some_positive (row_at rows r) 0 n ≡ b
        → IsStep n givens rows (if b then pivots r else ends none)
    negative r within below true e = within
    negative r within below false e =
        let l = below_true (entry (row_at rows r) n) below in
        let c = dot-constant n (row_at rows r).entries in
        empty_right n givens rows [] r stands within (omega (arith, ints))
        (λ j low. some_positive-false (row_at rows r) 0 n e j (omega arith) (omega arith))

    pivoting : (r : Option ℕ) → IsFirst (has_below n) 0 rows r → IsStep n givens rows (pivot_or_cut n rows r)
    pivoting None fail =
        cutting fail (first_row (has_fraction n) 0 (take n rows)) (first_row-says (has_fraction n) 0 (take n rows))
    pivoting (Some k) is =
        let f = is.2 in
        let e : k ≡ is.0 = omega arith in
        negative k (let l = is.1 in omega arith) (subst (λ (i : ℕ). has_below n (row_at rows i) ≡ true) (sym e) is.3)
        (some_positive (row_at rows k) 0 n) refl

-- a cut without parameters takes off a remainder of the constant
pub cut_floor : (n : ℕ) (row : Row) → pos 0 <ℤ row.denominator
    → IsFloor (pos 0 -ℤ dot (cut_entries n row.denominator row.entries) (zeros n ++ pos 1 ∷ [])) row.denominator
    (pos 0)
cut_floor n row positive =
    let d = row.denominator in
    let a = dot-constant n (cut_entries n d row.entries) in
    let b = cut_constant n d row.entries positive in
    let z = mul_zero_left d in
    record { below = omega (arith, ints); above = omega (arith, ints) }

-- a move keeps what stands
pub moved-stands : (n : ℕ) (givens : List (List ℤ)) (rows news : List Row) (step : Step) → Stands n givens rows []
    → IsStep n givens rows step
    → moved n rows step ≡ Ok news → Stands n givens news []
moved-stands n givens rows news (ends v) stands is h =
    let e : news ≡ rows = cc in subst (λ (rs : List Row). Stands n givens rs []) (sym e) stands
moved-stands n givens rows news (pivots r) stands is h = stands_pivot_run n givens rows news [] r stands is h
moved-stands n givens rows news (cuts i) stands is h =
    let c = chain-ok (cut_run n None (row_at rows i)) (λ (row : Row). Ok (rows ++ row ∷ [])) news h in
    let e : news ≡ rows ++ c.0 ∷ [] = cc (c.2) in
    let at = sized_at (n + 1 + 0) rows i (let k = stands.many in omega arith) stands.sized in
    subst (λ (rs : List Row). Stands n givens rs []) (sym e)
    (stands_cut n givens rows c.0 [] i None stands is c.1 tt (λ ys size. cut_floor n (row_at rows i) at.0))

-- an outcome has one verdict
pub same_verdict : (v w : Verdict) (l m : ℕ) → ◌≡◌ {A = Outcome} (Ok (w, m)) (Ok (v, l)) → v ≡ w
same_verdict v w l m h = let e : (w, m) ≡ (v, l) = cc in sym (ap (λ (x : Verdict × ℕ). x.0) e)

-- a run that ends is right
pub run-right : (n : ℕ) (givens : List (List ℤ)) (left : ℕ) (rows : List Row) (v : Verdict) (l : ℕ)
    → Stands n givens rows []
    → run n left rows ≡ Ok (v, l) → Holds n givens [] v
run-right n givens zero rows v l stands h = by_step (next n rows) (next-says n givens rows stands) h
  where
    by_step : (step : Step) → IsStep n givens rows step → at_spent step ≡ Ok (v, l) → Holds n givens [] v
    by_step (ends w) is h = let e = same_verdict v w l _ h in subst (Holds n givens []) (sym e) is
    by_step (pivots r) is h = cc
    by_step (cuts i) is h = cc
run-right n givens (suc left) rows v l stands h =
    by_step (next n rows) (next-says n givens rows stands) h (λ news s k. run-right n givens left news v l s k)
  where
    going : (step : Step) → IsStep n givens rows step → (r : Result (List Row) Wide) → moved n rows step ≡ r
        → go_on (run n left) (suc left) r ≡ Ok (v, l)
        → ((news : List Row) → Stands n givens news [] → run n left news ≡ Ok (v, l) → Holds n givens [] v)
        → Holds n givens [] v
    going step is (Ok news) e h more = more news (moved-stands n givens rows news step stands is e) h
    going step is (Err w) e h more = cc

    by_step : (step : Step) → IsStep n givens rows step → after (run n left) n rows left step ≡ Ok (v, l)
        → ((news : List Row) → Stands n givens news [] → run n left news ≡ Ok (v, l) → Holds n givens [] v)
        → Holds n givens [] v
    by_step (ends w) is h more = let e = same_verdict v w l _ h in subst (Holds n givens []) (sym e) is
    by_step (pivots r) is h more = going (pivots r) is (moved n rows (pivots r)) refl h more
    by_step (cuts i) is h more = going (cuts i) is (moved n rows (cuts i)) refl h more

-- the same of a problem
pub holds_right : (n k : ℕ) (fs : List Affine) (p : List ℤ) (v : Verdict) → n ≤ k → Speaks k fs
    → Holds n (givens_of n fs) p v
    → IsRight (record { unknowns = n; rows = fs }) p v
holds_right n k fs p (point xs) long speaks h =
    record {
      size = h.0.size;
      inside = inside_point n k fs p xs long speaks h.0;
      least =
          λ y same is less. LexLess-irrefl y (LexLess-from_le y xs y less
          (h.1 y (point_inside n k fs p y long speaks is)));
    }
holds_right n k fs p none long speaks h = λ x is. h x (point_inside n k fs p x long speaks is)

pub question-right : (budget n : ℕ) (fs : List Affine) (v : Verdict) (l : ℕ) → Speaks n fs
    → question budget (record { unknowns = n; rows = fs }) ≡ Ok (v, l)
    → IsRight (record { unknowns = n; rows = fs }) [] v
unfolding question
question-right budget n fs v l speaks h =
    let e : n + 0 ≡ n = omega arith in
    let s = stands_first n fs [] (subst (λ (k : ℕ). Speaks k fs) (sym e) speaks) in
    holds_right n n fs [] v (omega arith) speaks
    (run-right n (givens_of n fs) budget (first_rows 0 (record { unknowns = n; rows = fs })) v l s h)

pub ruleset answers = (question-right)
