-- A question's run, step by step.
use Rattle.whole_numbers.proofs.Common.{◌≡◌, ℕ, zero, suc, ◌<◌, true, false, List, [], ◌∷◌, ◌++◌, take, refl, ap, ◌∙◌}
use Rattle.whole_numbers.proofs.Common.{arith, Option, Some, None, Result, Ok, Err}
use Rattle.wide_math.specs.declared.Wide.{Wide}
use Rattle.wide_math.specs.Checked.{◌>>=◌}
use Rattle.tableau_rows.specs.Rows.{Row}
use Rattle.tableau_rows.specs.Moves.{row_at, pivot_run, cut_run}
use Rattle.tableau_rows.specs.Run.{point, none, Step, ends, pivots, cuts, wide, spent, first_row, has_below}
use Rattle.tableau_rows.specs.Run.{has_fraction, some_positive, quotients, pivot_or_cut, cut_or_end, next, run}
use Rattle.tableau_rows.specs.Run.{at_spent, after, go_on}

-- what is next
pub next_pivots : (n : ℕ) (rows : List Row) (r : ℕ) → first_row (has_below n) 0 rows ≡ Some r
    → some_positive (row_at rows r) 0 n ≡ true → next n rows ≡ pivots r
unfolding next
next_pivots n rows r first some = ap (λ (o : Option ℕ). pivot_or_cut n rows o) first ∙ rw some refl

pub next_empty : (n : ℕ) (rows : List Row) (r : ℕ) → first_row (has_below n) 0 rows ≡ Some r
    → some_positive (row_at rows r) 0 n ≡ false → next n rows ≡ ends none
unfolding next
next_empty n rows r first some = ap (λ (o : Option ℕ). pivot_or_cut n rows o) first ∙ rw some refl

pub next_cuts : (n : ℕ) (rows : List Row) (r : ℕ) → first_row (has_below n) 0 rows ≡ None
    → first_row (has_fraction n) 0 (take n rows) ≡ Some r → next n rows ≡ cuts r
unfolding next
next_cuts n rows r first whole = ap (λ (o : Option ℕ). pivot_or_cut n rows o) first
    ∙ ap (λ (o : Option ℕ). cut_or_end n rows o) whole

pub next_point : (n : ℕ) (rows : List Row) → first_row (has_below n) 0 rows ≡ None
    → first_row (has_fraction n) 0 (take n rows) ≡ None
    → next n rows ≡ ends (point (quotients n (take n rows)))
unfolding next
next_point n rows first whole = ap (λ (o : Option ℕ). pivot_or_cut n rows o) first
    ∙ ap (λ (o : Option ℕ). cut_or_end n rows o) whole

-- a run without moves left
pub run_spent : (n left : ℕ) (rows : List Row) (s : Step) → next n rows ≡ s → at_spent s ≡ Err spent → left ≡ 0
    → run n left rows ≡ Err spent
run_spent n left rows s is stops zero_left = ap (λ (k : ℕ). run n k rows) zero_left ∙ ap (λ (t : Step). at_spent t) is
    ∙ stops

-- a move
pub run_pivots : (n left rest r : ℕ) (rows news : List Row) → next n rows ≡ pivots r → left ≡ suc rest
    → pivot_run n rows r ≡ Ok news → run n left rows ≡ run n rest news
run_pivots n left rest r rows news is more made =
    ap (λ (k : ℕ). run n k rows) more ∙ ap (λ (s : Step). after (run n rest) n rows rest s) is
    ∙ ap (λ (q : Result (List Row) Wide). go_on (run n rest) (suc rest) q) made

pub run_pivots-wide : (n left r : ℕ) (rows : List Row) (w : Wide) → next n rows ≡ pivots r → 0 < left
    → pivot_run n rows r ≡ Err w → run n left rows ≡ Err (wide w left)
run_pivots-wide n zero r rows w is some failed = absurd (omega arith)
run_pivots-wide n (suc left) r rows w is some failed =
    ap (λ (s : Step). after (run n left) n rows left s) is
    ∙ ap (λ (q : Result (List Row) Wide). go_on (run n left) (suc left) q) failed

pub run_cuts : (n left rest i : ℕ) (rows : List Row) (row : Row) → next n rows ≡ cuts i → left ≡ suc rest
    → cut_run n None (row_at rows i) ≡ Ok row
    → run n left rows ≡ run n rest (rows ++ row ∷ [])
run_cuts n left rest i rows row is more made =
    ap (λ (k : ℕ). run n k rows) more ∙ ap (λ (s : Step). after (run n rest) n rows rest s) is
    ∙ ap (λ (q : Result Row Wide). go_on (run n rest) (suc rest) (q >>= λ row. Ok (rows ++ row ∷ []))) made

pub run_cuts-wide : (n left i : ℕ) (rows : List Row) (w : Wide) → next n rows ≡ cuts i → 0 < left
    → cut_run n None (row_at rows i) ≡ Err w → run n left rows ≡ Err (wide w left)
run_cuts-wide n zero i rows w is some failed = absurd (omega arith)
run_cuts-wide n (suc left) i rows w is some failed =
    ap (λ (s : Step). after (run n left) n rows left s) is
    ∙ ap (λ (q : Result Row Wide). go_on (run n left) (suc left) (q >>= λ row. Ok (rows ++ row ∷ []))) failed
