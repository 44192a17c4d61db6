-- Each move keeps what stands, and what stands makes a leaf the least point and an empty node right.
use Rattle.whole_numbers.proofs.Common.{◌≡◌, ℕ, zero, suc, ◌+◌, ◌<◌, ◌≤◌, ℤ, pos, ◌≤ℤ◌, ◌<ℤ◌, Option, Some, List, []}
use Rattle.whole_numbers.proofs.Common.{◌∷◌, ◌++◌, length, get_or, drop, take, refl, subst, ap, sym, ◌∙◌, arith}
use Rattle.whole_numbers.proofs.Common.{length-append, Ok, ints, drop-append_seam, length-drop, take-append-le}
use Rattle.whole_numbers.proofs.Common.{length-take-le, dot, zeros, NotNegative, LexLe, LexNotNegative, mul_comm_int}
use Rattle.whole_numbers.proofs.Common.{mul_zero_left, mul_not_negative, cancel_le, cancel_eq, length-zeros}
use Rattle.std.proofs.lemmas.List.{drop-append-le}
use Rattle.whole_numbers.proofs.Lists.{dot_not_positive, not_negative-at}
use Rattle.tableau_rows.specs.Rows.{Row, entry, Means, Sized}
use Rattle.tableau_rows.specs.Moves.{rows_run, row_at, pivot_run, cut_run, cut_entries}
use Rattle.tableau_rows.specs.Solutions.{IsSolution, IsTied}
use Rattle.tableau_rows.proofs.Invariant.{column, Pivoted, values, part, IsInside, Stands}
use Rattle.tableau_rows.proofs.Pivots.{pivot_faithful, drop_sized}
use Rattle.tableau_rows.proofs.LeastPoints.{pivot_up, up_dots, least_at_zero, dot_apart}
use Rattle.tableau_rows.proofs.PivotMoves.{rows_run-pivoted, pivoted_sized}
use Rattle.tableau_rows.proofs.PivotColumns.{IsBest, pivot_run_by}
use Rattle.tableau_rows.proofs.KeptSolutions.{pivot_forth, cut_forth}
use Rattle.tableau_rows.proofs.Points.{means_at, means_longer, means_shorter, means_fewer, means_take, sized_at}
use Rattle.tableau_rows.proofs.Points.{sized_more, sized_take, not_negative-parts}
use Rattle.tableau_rows.proofs.Cuts.{cut_sized, IsPlace}

pub take_pivoted : (n s : ℕ) (pivot : Row) (rows news : List Row) → Pivoted s pivot rows news
    → Pivoted s pivot (take n rows) (take n news)
take_pivoted zero s pivot rows news p = tt
take_pivoted (suc n) s pivot [] [] p = tt
take_pivoted (suc n) s pivot [] (new ∷ news) p = absurd p
take_pivoted (suc n) s pivot (row ∷ rows) [] p = absurd p
take_pivoted (suc n) s pivot (row ∷ rows) (new ∷ news) p = (p.0, take_pivoted n s pivot rows news p.1)

-- a pivot keeps what stands
pub stands_pivot : (n : ℕ) (givens : List (List ℤ)) (rows news : List Row) (p : List ℤ) (r s : ℕ)
    → Stands n givens rows p → r < length rows
    → IsBest (row_at rows r) (take n rows) n (Some s) → rows_run r s (row_at rows r) 0 rows ≡ Ok news
    → Stands n givens news p
stands_pivot n givens rows news p r s stands within best run =
    let pivot = row_at rows r in
    let m = n + 1 + length p in
    let at = sized_at m rows r within stands.sized in
    let pivoted = rows_run-pivoted m r s pivot 0 rows news stands.sized best.1
    (λ j low e. ap (λ (k : ℕ). row_at rows k) (let f : j ≡ r = omega arith in f)) run in
    let sizes = pivoted_sized m s pivot rows news pivoted stands.sized at.1 best.1 in
    record {
      sized = sizes.0;
      many = let l = sizes.1 in let k = stands.many in omega arith;
      up = λ j below.
          pivot_up m s j pivot (take n rows) (take n news) (take_pivoted n s pivot rows news pivoted)
          (sized_take n m rows stands.sized) at.1
          (let l = best.0 in omega arith) at.0 best.1 (best.2 j below) (stands.up s best.0) (stands.up j below);
      faithful =
          pivot_faithful n m s pivot rows news givens pivoted stands.sized at.1 best.0 (omega arith) stands.faithful;
      reached =
          λ xs inside. pivot_forth n rows news p xs r s stands.sized within best.0 pivoted sizes.1
          (stands.reached xs inside);
    }

-- the same of the whole move; a row without a positive entry moves nothing
pub stands_pivot_run : (n : ℕ) (givens : List (List ℤ)) (rows news : List Row) (p : List ℤ) (r : ℕ)
    → Stands n givens rows p → r < length rows
    → pivot_run n rows r ≡ Ok news → Stands n givens news p
stands_pivot_run n givens rows news p r stands within run =
    pivot_run_by n r rows news (λ (k : List Row). Stands n givens k p) run stands
    (λ s best moved. stands_pivot n givens rows news p r s stands within best moved)

-- a cut keeps what stands, where its tied parameter has its value
pub stands_cut : (n : ℕ) (givens : List (List ℤ)) (rows : List Row) (new : Row) (p : List ℤ) (i : ℕ)
    (place : Option ℕ) → Stands n givens rows p → i < n
    → cut_run n place (row_at rows i) ≡ Ok new
    → IsPlace place (cut_entries n (row_at rows i).denominator (row_at rows i).entries)
    → IsTied n place (row_at rows i) p → Stands n givens (rows ++ new ∷ []) p
stands_cut n givens rows new p i place stands below run is floor =
    let within : i < length rows = let k = stands.many in omega arith in
    let at = sized_at (n + 1 + length p) rows i within stands.sized in
    let size = cut_sized n place (row_at rows i) new at.0 run in
    record {
      sized = sized_more (n + 1 + length p) rows new stands.sized size.0 (size.1 ∙ at.1);
      many = let k = stands.many in simp length-append (omega arith);
      up =
          λ j low. subst (λ (rs : List Row). LexNotNegative (column j rs))
          (sym (take-append-le n rows (new ∷ []) stands.many)) (stands.up j low);
      faithful = λ v xs long short means.
          subst (λ (rs : List Row). Means rs v (values givens (xs ++ drop n v)))
          (sym (drop-append-le n rows (new ∷ []) stands.many))
          (means_longer (drop n rows) (new ∷ []) v (values givens (xs ++ drop n v))
          (stands.faithful v xs long short
          (means_shorter rows (new ∷ []) v xs (let k = stands.many in omega arith) means)));
      reached =
          λ xs inside. cut_forth n rows new p xs i place stands.sized within run is floor (stands.reached xs inside);
    }

-- rows whose parts are not negative give nothing negative where every column is 0
abbrev pub Settled : ℕ → List ℤ → List Row → Type 0
Settled n p [] = Unit {0}
Settled n p (row ∷ rows) = (pos 0 ≤ℤ part n row p) × Settled n p rows

pub settled_drop : (k n : ℕ) (p : List ℤ) (rows : List Row) → Settled n p rows → Settled n p (drop k rows)
settled_drop zero n p rows h = h
settled_drop (suc k) n p [] h = h
settled_drop (suc k) n p (row ∷ rows) h = settled_drop k n p rows h.1

pub settled_means : (m n : ℕ) (p : List ℤ) (rows : List Row) (xs : List ℤ) → Sized m rows → Settled n p rows
    → Means rows (zeros n ++ pos 1 ∷ p) xs → NotNegative xs
settled_means m n p rows [] sized settled means = tt
settled_means m n p [] (x ∷ xs) sized settled means = absurd means
settled_means m n p (row ∷ rows) (x ∷ xs) sized settled means =
    let e = means.0 in
    let l = settled.0 in
    let d = row.denominator in
    let c = mul_comm_int d x in
    let z = mul_zero_left d in
    (cancel_le (pos 0) x d sized.0 (omega (arith, ints)), settled_means m n p rows xs sized.2 settled.1 means.1)

-- a leaf: the rows' values where every column is 0 are the least point
pub leaf_inside : (n : ℕ) (givens : List (List ℤ)) (rows : List Row) (p xs : List ℤ) → Stands n givens rows p
    → Settled n p rows → length xs ≡ n
    → Means rows (zeros n ++ pos 1 ∷ p) xs → IsInside n givens p xs
leaf_inside n givens rows p xs stands settled size means =
    let v = zeros n ++ pos 1 ∷ p in
    let long : n < length v = simp length-append (omega (arith, length-zeros n)) in
    let f = stands.faithful v xs long size means in
    let e : drop n v ≡ pos 1 ∷ p = dropped n (pos 1 ∷ p) in
    let g = subst (λ (t : List ℤ). Means (drop n rows) v (values givens (xs ++ t))) e f in
    record {
      size = size;
      not_negative = settled_means (n + 1 + length p) n p rows xs stands.sized settled means;
      rows =
          settled_means (n + 1 + length p) n p (drop n rows) (values givens (xs ++ pos 1 ∷ p))
          (drop_sized n (n + 1 + length p) rows stands.sized)
          (settled_drop n n p rows settled) g;
    }
  where
    dropped : (k : ℕ) (t : List ℤ) → drop k (zeros k ++ t) ≡ t
    dropped zero t = refl
    dropped (suc k) t = dropped k t

pub leaf_least : (n : ℕ) (givens : List (List ℤ)) (rows : List Row) (p xs zs : List ℤ) → Stands n givens rows p
    → length xs ≡ n
    → Means rows (zeros n ++ pos 1 ∷ p) xs → IsInside n givens p zs → LexLe xs zs
leaf_least n givens rows p xs zs stands size means inside =
    let m = n + 1 + length p in
    let r = stands.reached zs inside in
    let us = take n rows in
    let count = length-take-le n rows stands.many in
    let a = means_take n rows (zeros n ++ pos 1 ∷ p) xs (omega arith) means in
    let a' = subst (λ (k : ℕ). Means us (zeros k ++ pos 1 ∷ p) xs) (sym r.columns_size) a in
    let k = r.columns_size in
    let l = inside.size in
    let b = means_take n rows (r.columns ++ pos 1 ∷ p) zs (omega arith)
    (means_fewer rows (r.columns ++ pos 1 ∷ p) zs r.more r.means) in
    let up = up_dots 0 us r.columns (λ i low high. stands.up i (omega arith)) r.not_negative in
    least_at_zero us r.columns (pos 1 ∷ p) xs zs m (sized_take n m rows stands.sized) (omega arith) (omega arith) a' b
    up

pub empty_right : (n : ℕ) (givens : List (List ℤ)) (rows : List Row) (p : List ℤ) (r : ℕ) → Stands n givens rows p
    → r < length rows
    → part n (row_at rows r) p <ℤ pos 0 → ((j : ℕ) → j < n → entry (row_at rows r) j ≤ℤ pos 0) → (xs : List ℤ)
    → IsInside n givens p xs → ⊥
empty_right n givens rows p r stands within below none xs inside =
    let old = stands.reached xs inside in
    let row = row_at rows r in
    let at = sized_at (n + 1 + length p) rows r within stands.sized in
    let y = get_or (xs ++ old.more) r (pos 0) in
    let e = means_at rows (old.columns ++ pos 1 ∷ p) (xs ++ old.more) r old.number within old.means in
    let a = dot_apart row.entries old.columns (pos 1 ∷ p) in
    let b = ap (λ (k : ℕ). dot row.entries (zeros k ++ pos 1 ∷ p)) old.columns_size in
    let k = old.columns_size in
    let c = dot_not_positive row.entries old.columns (λ j low. none j (omega arith)) old.not_negative in
    let d = mul_not_negative row.denominator y (let l = at.0 in omega (arith, ints))
    (not_negative-at (xs ++ old.more) r old.rows_not_negative) in
    omega (arith, ints)

-- a solution's unknowns are inside the given rows
pub means_same : (m : ℕ) (rows : List Row) (v xs ys : List ℤ) → Sized m rows → length xs ≤ length ys
    → Means rows v xs → Means rows v ys
    → NotNegative ys → NotNegative xs
means_same m rows v [] ys sized h a b not = tt
means_same m rows v (x ∷ xs) [] sized h a b not = absurd (omega arith)
means_same m [] v (x ∷ xs) (y ∷ ys) sized h a b not = absurd a
means_same m (row ∷ rows) v (x ∷ xs) (y ∷ ys) sized h a b not =
    let d = row.denominator in
    let e = a.0 in
    let f = b.0 in
    let c = mul_comm_int d x in
    let g = mul_comm_int d y in
    let same : x ≡ y = cancel_eq x y d sized.0 (omega (arith, ints)) in
    let n = not.0 in
    (omega (arith, ints), means_same m rows v xs ys sized.2 (omega arith) a.1 b.1 not.1)

pub means_drop : (rows : List Row) (v xs more : List ℤ) → Means rows v (xs ++ more)
    → Means (drop (length xs) rows) v more
means_drop rows v [] more h = h
means_drop [] v (x ∷ xs) more h = absurd h
means_drop (row ∷ rows) v (x ∷ xs) more h = means_drop rows v xs more h.1

pub means_number : (rows : List Row) (v xs : List ℤ) → Means rows v xs → length xs ≤ length rows
means_number rows v [] h = omega arith
means_number [] v (x ∷ xs) h = absurd h
means_number (row ∷ rows) v (x ∷ xs) h = let more = means_number rows v xs h.1 in omega arith

pub solution_inside : (n : ℕ) (givens : List (List ℤ)) (rows : List Row) (p xs : List ℤ) → Stands n givens rows p
    → IsSolution n rows p xs
    → IsInside n givens p xs
solution_inside n givens rows p xs stands is =
    let v = is.columns ++ pos 1 ∷ p in
    let size = is.columns_size in
    let long : n < length v = simp length-append (omega arith) in
    let both = not_negative-parts xs is.more is.rows_not_negative in
    let zs = values givens (xs ++ drop n v) in
    let f = stands.faithful v xs long is.size (means_fewer rows v xs is.more is.means) in
    let g = subst (λ (k : ℕ). Means (drop k rows) v is.more) is.size (means_drop rows v xs is.more is.means) in
    let number = means_number (drop n rows) v zs f in
    let l : length (xs ++ is.more) ≡ length xs + length is.more = simp length-append refl in
    let k = is.number in
    let s = is.size in
    let count : length zs ≤ length is.more = omega (arith, length-drop n rows) in
    let e : drop n v ≡ pos 1 ∷ p = subst (λ (k : ℕ). drop k v ≡ pos 1 ∷ p) size
    (drop-append_seam is.columns (pos 1 ∷ p)) in
    record {
      size = is.size;
      not_negative = both.0;
      rows = subst (λ (t : List ℤ). NotNegative (values givens (xs ++ t))) e
          (means_same (n + 1 + length p) (drop n rows) v zs is.more (drop_sized n (n + 1 + length p) rows stands.sized)
          count f g both.1);
    }
