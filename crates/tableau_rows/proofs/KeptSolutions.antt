-- A pivot and a cut keep a tableau and its whole solutions, in both directions.
use Rattle.whole_numbers.proofs.Common.{◌≡◌, ◌≢◌, ℕ, zero, suc, ◌+◌, ◌-◌, ◌<◌, ◌≤◌, ℤ, pos, ◌-ℤ◌, ◌*ℤ◌, ◌<ℤ◌, Option}
use Rattle.whole_numbers.proofs.Common.{List, [], ◌∷◌, ◌++◌, length, set, get_or, take, drop, refl, subst, ap, sym, ◌∙◌}
use Rattle.whole_numbers.proofs.Common.{arith, append_assoc, length-append, Ok, ints, length-take-le, take-append-drop}
use Rattle.whole_numbers.proofs.Common.{dite, ℕ_discrete, not_negative-append, dot, NotNegative, mul_comm_int}
use Rattle.whole_numbers.proofs.Common.{mul_zero_left, mul_zero_right, mul_assoc_int, mul_distrib_left, mul_sub_left}
use Rattle.whole_numbers.proofs.Common.{left_comm, cancel_eq, dot-set, get_or-multiples}
use Rattle.std.proofs.lemmas.List.{set-append_left}
use Rattle.std.proofs.Math.ListN.{length-set}
use Rattle.whole_numbers.proofs.Lists.{dot_same, not_negative-at, not_negative-set}
use Rattle.tableau_rows.specs.Rows.{Row, entry, At, Means, Sized}
use Rattle.tableau_rows.specs.Moves.{row_at, pivot_run, rows_run, cut_run, cut_entries}
use Rattle.tableau_rows.specs.Solutions.{IsSolution, IsColumn, HasColumn, IsTableau, HaveSameSolutions, IsPlaced}
use Rattle.tableau_rows.specs.Solutions.{IsTied}
use Rattle.tableau_rows.proofs.Invariant.{combined, IsLowered, Pivoted}
use Rattle.tableau_rows.proofs.Points.{means_at, sized_at, means_more, sized_more, not_negative-parts}
use Rattle.tableau_rows.proofs.Pivots.{dot-combined, raised_at, pivot_means}
use Rattle.tableau_rows.proofs.LeastPoints.{combined-at, combined-else}
use Rattle.tableau_rows.proofs.PivotColumns.{pivot_run_by}
use Rattle.tableau_rows.proofs.PivotMoves.{rows_run-pivoted, pivoted_sized}
use Rattle.tableau_rows.proofs.Cuts.{cut_at, cut_sized, is_place, IsPlace}

-- a list with one number at most
pub dot-single : (j : ℕ) (es v : List ℤ) → ((i : ℕ) → i ≢ j → get_or es i (pos 0) ≡ pos 0)
    → dot es v ≡ get_or es j (pos 0) *ℤ get_or v j (pos 0)
dot-single j [] v others = sym (mul_zero_left (get_or v j (pos 0)))
dot-single j (e ∷ es) [] others = sym (mul_zero_right (get_or (e ∷ es) j (pos 0)))
dot-single zero (e ∷ es) (x ∷ v) others =
    let a = dot_same es [] v (λ i. others (suc i) (λ (h : suc i ≡ zero). omega arith)) in
    omega (arith, ints)
dot-single (suc j) (e ∷ es) (x ∷ v) others =
    let a = ap (λ (k : ℤ). k *ℤ x) (others 0 (λ (h : zero ≡ suc j). omega arith)) in
    let b = mul_zero_left x in
    let c = dot-single j es v (λ i ne. others (suc i) (λ (h : suc i ≡ suc j). ne (omega arith))) in
    omega (arith, ints)

-- the column's own row says what the column was before the pivot
pub own_back : (s : ℕ) (pivot row : Row) (v : List ℤ) (t : ℤ) → pos 0 <ℤ row.denominator → IsColumn s row
    → length row.entries ≡ length pivot.entries → s < length pivot.entries → s < length v
    → At (combined s pivot row) v t → At pivot (set v s t) (get_or v s (pos 0))
own_back s pivot row v t positive is same within inside at =
    let a = entry pivot s in
    let d = row.denominator in
    let w = get_or v s (pos 0) in
    let q = pivot.denominator in
    let r = dot pivot.entries v in
    let own = is.own in
    let c = dot-combined s pivot row v same within in
    let e = dot-set pivot.entries v s t inside in
    let f = dot-single s row.entries v is.others ∙ ap (λ (k : ℤ). k *ℤ w) own in
    let g = ap (λ (k : ℤ). a *ℤ k) f in
    let h = ap (λ (k : ℤ). (k *ℤ (q *ℤ w)) -ℤ (k *ℤ r)) own in
    let i = left_comm a d w in
    let j = mul_assoc_int d a t in
    let k = mul_distrib_left r (a *ℤ (t -ℤ w)) d in
    let l = mul_sub_left t w a in
    let m = mul_sub_left (a *ℤ t) (a *ℤ w) d in
    let n = ap (λ (z : ℤ). d *ℤ z) l in
    let o = mul_comm_int d (q *ℤ w) in
    let p = mul_comm_int d (dot pivot.entries (set v s t)) in
    let x = ap (λ (z : ℤ). d *ℤ z) e in
    cancel_eq (q *ℤ w) (dot pivot.entries (set v s t)) d positive (omega (arith, ints))

-- where the pivot row gives the column back, a row gives what its combined row gives
pub uncombined_at : (s : ℕ) (pivot row : Row) (v : List ℤ) (x t : ℤ) → length row.entries ≡ length pivot.entries
    → s < length pivot.entries → s < length v → pos 0 <ℤ entry pivot s
    → At pivot (set v s t) (get_or v s (pos 0)) → At (combined s pivot row) v x → At row (set v s t) x
uncombined_at s pivot row v x t same within inside positive here at =
    let a = entry pivot s in
    let b = entry row s in
    let w = get_or v s (pos 0) in
    let c = dot-combined s pivot row v same within in
    let d = dot-set row.entries v s t inside in
    let e = dot-set pivot.entries v s t inside in
    let f = ap (λ (k : ℤ). b *ℤ k) (here ∙ e) in
    let g = mul_distrib_left (dot pivot.entries v) (a *ℤ (t -ℤ w)) b in
    let h = left_comm a b (t -ℤ w) in
    let i = mul_distrib_left (dot row.entries v) (b *ℤ (t -ℤ w)) a in
    let j = ap (λ (k : ℤ). a *ℤ k) d in
    let k = mul_assoc_int row.denominator a x in
    let l = left_comm a row.denominator x in
    let m = mul_comm_int a (row.denominator *ℤ x) in
    let n = mul_comm_int a (dot row.entries (set v s t)) in
    cancel_eq (row.denominator *ℤ x) (dot row.entries (set v s t)) a positive (omega (arith, ints))

pub uncombined_means : (m s : ℕ) (pivot : Row) (rows news : List Row) (v xs : List ℤ) (t : ℤ)
    → Pivoted s pivot rows news
    → Sized m rows → length pivot.entries ≡ m → s < m → s < length v → pos 0 <ℤ entry pivot s
    → At pivot (set v s t) (get_or v s (pos 0)) → Means news v xs → Means rows (set v s t) xs
uncombined_means m s pivot rows news v [] t p sizes same within inside positive here means = tt
uncombined_means m s pivot rows [] v (x ∷ xs) t p sizes same within inside positive here means = absurd means
uncombined_means m s pivot [] (new ∷ news) v (x ∷ xs) t p sizes same within inside positive here means = absurd p
uncombined_means m s pivot (row ∷ rows) (new ∷ news) v (x ∷ xs) t p sizes same within inside positive here means = (
  uncombined_at s pivot row v x t (sizes.1 ∙ sym same) (omega arith) inside positive here
      (raised_at (combined s pivot row) new v x p.0 means.0),
  uncombined_means m s pivot rows news v xs t p.1 sizes.2 same within inside positive here means.1,
)

pub pivoted_at : (s : ℕ) (pivot : Row) (rows news : List Row) (k : ℕ) → k < length rows → Pivoted s pivot rows news
    → IsLowered (combined s pivot (row_at rows k)) (row_at news k)
pivoted_at s pivot [] news k within p = absurd (omega arith)
pivoted_at s pivot (row ∷ rows) [] k within p = absurd p
pivoted_at s pivot (row ∷ rows) (new ∷ news) zero within p = p.0
pivoted_at s pivot (row ∷ rows) (new ∷ news) (suc k) within p = pivoted_at s pivot rows news k (omega arith) p.1

-- a row in lower terms gives the same column
pub lowered_column : (j : ℕ) (row lower : Row) → IsLowered row lower → IsColumn j row → IsColumn j lower
lowered_column j row lower is col =
    record { own = same; others = λ i ne. none i (col.others i ne) }
  where
    entry_is : (i : ℕ) → entry row i ≡ is.factor *ℤ entry lower i
    entry_is i = ap (λ (es : List ℤ). get_or es i (pos 0)) is.entries ∙ get_or-multiples is.factor lower.entries i

    same : entry lower j ≡ lower.denominator
    same =
        let k = is.factor in
        let a = entry_is j in
        let b = col.own in
        let c = is.denominators in
        let d = mul_comm_int k (entry lower j) in
        let e = mul_comm_int k lower.denominator in
        cancel_eq (entry lower j) lower.denominator k is.positive (omega (arith, ints))

    none : (i : ℕ) → entry row i ≡ pos 0 → entry lower i ≡ pos 0
    none i z =
        let k = is.factor in
        let a = entry_is i in
        let c = mul_zero_left k in
        let d = mul_comm_int k (entry lower i) in
        cancel_eq (entry lower i) (pos 0) k is.positive (omega (arith, ints))

-- a pivot keeps the other columns' rows, and its row becomes that of its column
pub combined_column : (s j : ℕ) (pivot row : Row) → length row.entries ≡ length pivot.entries
    → s < length pivot.entries
    → j ≢ s → IsColumn j row → IsColumn j (combined s pivot row)
combined_column s j pivot row same within ne is =
    record {
      own = own (is.others s (λ (e : s ≡ j). ne (sym e)));
      others = λ i other. dite (ℕ_discrete i s)
          (λ (e : i ≡ s). subst (λ (k : ℕ). entry (combined s pivot row) k ≡ pos 0) (sym e)
          (column (is.others s (λ (e : s ≡ j). ne (sym e)))))
          (λ (n : i ≢ s). rest i n (is.others i other) (is.others s (λ (e : s ≡ j). ne (sym e))));
    }
  where
    own : entry row s ≡ pos 0 → entry (combined s pivot row) j ≡ row.denominator *ℤ entry pivot s
    own z =
        let a = combined-else s j pivot row same ne in
        let b = ap (λ (k : ℤ). k *ℤ entry pivot j) z in
        let c = mul_zero_left (entry pivot j) in
        let d = ap (λ (k : ℤ). k *ℤ entry pivot s) is.own in
        omega (arith, ints)

    column : entry row s ≡ pos 0 → entry (combined s pivot row) s ≡ pos 0
    column z =
        combined-at s pivot row same within ∙ ap (λ (k : ℤ). k *ℤ pivot.denominator) z ∙ mul_zero_left
        pivot.denominator

    rest : (i : ℕ) → i ≢ s → entry row i ≡ pos 0 → entry row s ≡ pos 0 → entry (combined s pivot row) i ≡ pos 0
    rest i n y z =
        let a = combined-else s i pivot row same n in
        let b = ap (λ (k : ℤ). k *ℤ entry pivot i) z in
        let c = mul_zero_left (entry pivot i) in
        let d = ap (λ (k : ℤ). k *ℤ entry pivot s) y in
        let e = mul_zero_left (entry pivot s) in
        omega (arith, ints)

pub pivot_column : (s : ℕ) (pivot : Row) → s < length pivot.entries → IsColumn s (combined s pivot pivot)
pivot_column s pivot within =
    record {
      own = combined-at s pivot pivot refl within ∙ mul_comm_int (entry pivot s) pivot.denominator;
      others = λ i ne.
          let a = combined-else s i pivot pivot refl ne in
          let b = mul_comm_int (entry pivot i) (entry pivot s) in
          omega (arith, ints);
    }

-- a pivot's tableau
pub pivot_tableau : (n m : ℕ) (rows news : List Row) (r s : ℕ) → IsTableau n m rows → r < length rows → s < n
    → pos 0 <ℤ entry (row_at rows r) s → Pivoted s (row_at rows r) rows news → IsTableau n m news
pivot_tableau n m rows news r s is within below here pivoted =
    let pivot = row_at rows r in
    let at = sized_at (n + 1 + m) rows r within is.sized in
    let sizes = pivoted_sized (n + 1 + m) s pivot rows news pivoted is.sized at.1 here in
    record {
      sized = sizes.0;
      many = let a = is.many in let b = sizes.1 in omega arith;
      columns = λ j low. dite (ℕ_discrete j s)
          (λ (e : j ≡ s). record {
            place = r;
            within = let b = sizes.1 in omega arith;
            is = subst (λ (k : ℕ). IsColumn k (row_at news r)) (sym e)
                (lowered_column s (combined s pivot pivot) (row_at news r)
                (pivoted_at s pivot rows news r within pivoted)
                (pivot_column s pivot (let l = at.1 in omega arith)));
          })
          (λ (ne : j ≢ s). kept j ne (is.columns j low) at.1 sizes.1);
    }
  where
    kept : (j : ℕ) → j ≢ s → HasColumn j rows → length (row_at rows r).entries ≡ n + 1 + m
        → length news ≡ length rows → HasColumn j news
    kept j ne has size count =
        let pivot = row_at rows r in
        let row = row_at rows has.place in
        let at = sized_at (n + 1 + m) rows has.place has.within is.sized in
        record {
          place = has.place;
          within = let w = has.within in omega arith;
          is =
              lowered_column j (combined s pivot row) (row_at news has.place)
              (pivoted_at s pivot rows news has.place has.within pivoted)
              (combined_column s j pivot row (at.1 ∙ sym size) (omega arith) ne has.is);
        }

-- a pivot's solutions
pub pivot_forth : (n : ℕ) (rows news : List Row) (p x : List ℤ) (r s : ℕ) → Sized (n + 1 + length p) rows
    → r < length rows
    → s < n → Pivoted s (row_at rows r) rows news → length news ≡ length rows → IsSolution n rows p x
    → IsSolution n news p x
pivot_forth n rows news p x r s sized within below pivoted same old =
    let at = sized_at (n + 1 + length p) rows r within sized in
    let y = get_or (x ++ old.more) r (pos 0) in
    let v = old.columns ++ pos 1 ∷ p in
    let here = means_at rows v (x ++ old.more) r old.number within old.means in
    let size = old.columns_size in
    let inside : s < length v = simp length-append (omega arith) in
    let new = pivot_means (n + 1 + length p) s (row_at rows r) rows news v (x ++ old.more) y pivoted sized at.1
    (omega arith) inside
    here old.means in
    record {
      columns = set old.columns s y;
      more = old.more;
      size = old.size;
      columns_size = simp length-set old.columns_size;
      not_negative =
          not_negative-set old.columns s y old.not_negative (not_negative-at (x ++ old.more) r old.rows_not_negative);
      number = old.number ∙ sym same;
      rows_not_negative = old.rows_not_negative;
      means =
          subst (λ (w : List ℤ). Means news w (x ++ old.more))
          (set-append_left old.columns (pos 1 ∷ p) s y (omega arith)) new;
    }

pub pivot_back : (n : ℕ) (rows news : List Row) (p x : List ℤ) (r s : ℕ) → IsTableau n (length p) rows
    → r < length rows → s < n
    → pos 0 <ℤ entry (row_at rows r) s → Pivoted s (row_at rows r) rows news → length news ≡ length rows
    → IsSolution n news p x → IsSolution n rows p x
pivot_back n rows news p x r s is within below positive pivoted same new =
    let pivot = row_at rows r in
    let has = is.columns s below in
    let k = has.place in
    let at = sized_at (n + 1 + length p) rows r within is.sized in
    let own = sized_at (n + 1 + length p) rows k has.within is.sized in
    let t = get_or (x ++ new.more) k (pos 0) in
    let v = new.columns ++ pos 1 ∷ p in
    let size = new.columns_size in
    let inside : s < length v = simp length-append (omega arith) in
    let at_new = means_at news v (x ++ new.more) k new.number (let w = has.within in omega arith) new.means in
    let raised = raised_at (combined s pivot (row_at rows k)) (row_at news k) v t
    (pivoted_at s pivot rows news k has.within pivoted) at_new in
    let here = own_back s pivot (row_at rows k) v t own.0 has.is (own.1 ∙ sym at.1) (let l = at.1 in omega arith)
    inside raised in
    let old = uncombined_means (n + 1 + length p) s pivot rows news v (x ++ new.more) t pivoted is.sized at.1
    (omega arith) inside positive
    here new.means in
    record {
      columns = set new.columns s t;
      more = new.more;
      size = new.size;
      columns_size = simp length-set new.columns_size;
      not_negative =
          not_negative-set new.columns s t new.not_negative (not_negative-at (x ++ new.more) k new.rows_not_negative);
      number = new.number ∙ same;
      rows_not_negative = new.rows_not_negative;
      means =
          subst (λ (w : List ℤ). Means rows w (x ++ new.more))
          (set-append_left new.columns (pos 1 ∷ p) s t (omega arith)) old;
    }

-- the law of a pivot
pub pivot_runs : (n m r s : ℕ) (rows news : List Row) → IsTableau n m rows → r < length rows → s < n
    → pos 0 <ℤ entry (row_at rows r) s → rows_run r s (row_at rows r) 0 rows ≡ Ok news
    → Pivoted s (row_at rows r) rows news × (length news ≡ length rows)
pivot_runs n m r s rows news is within below here run =
    let at = sized_at (n + 1 + m) rows r within is.sized in
    let pivoted = rows_run-pivoted (n + 1 + m) r s (row_at rows r) 0 rows news is.sized here
    (λ j low e. ap (λ (k : ℕ). row_at rows k) (let f : j ≡ r = omega arith in f)) run in
    (pivoted, (pivoted_sized (n + 1 + m) s (row_at rows r) rows news pivoted is.sized at.1 here).1)

pub pivot_keeps_tableau : (n m r s : ℕ) (rows news : List Row) → IsTableau n m rows → r < length rows → s < n
    → pos 0 <ℤ entry (row_at rows r) s → rows_run r s (row_at rows r) 0 rows ≡ Ok news → IsTableau n m news
pivot_keeps_tableau n m r s rows news is within below here run =
    pivot_tableau n m rows news r s is within below here (pivot_runs n m r s rows news is within below here run).0

pub pivot_keeps_solutions : (n m r s : ℕ) (rows news : List Row) → IsTableau n m rows → r < length rows → s < n
    → pos 0 <ℤ entry (row_at rows r) s → rows_run r s (row_at rows r) 0 rows ≡ Ok news
    → (p : List ℤ) → length p ≡ m → HaveSameSolutions n rows news p
pivot_keeps_solutions n m r s rows news is within below here run p size x =
    let ran = pivot_runs n m r s rows news is within below here run in
    let at = subst (λ (k : ℕ). IsTableau n k rows) (sym size) is in (
      pivot_forth n rows news p x r s at.sized within below ran.0 ran.1,
      pivot_back n rows news p x r s at within below here ran.0 ran.1,
    )

-- a cut's solutions
pub cut_forth : (n : ℕ) (rows : List Row) (new : Row) (p x : List ℤ) (i : ℕ) (place : Option ℕ)
    → Sized (n + 1 + length p) rows
    → i < length rows → cut_run n place (row_at rows i) ≡ Ok new
    → IsPlace place (cut_entries n (row_at rows i).denominator (row_at rows i).entries)
    → IsTied n place (row_at rows i) p → IsSolution n rows p x → IsSolution n (rows ++ new ∷ []) p x
cut_forth n rows new p x i place sized within run is tied old =
    let at = sized_at (n + 1 + length p) rows i within sized in
    let zs = x ++ old.more in
    let v = old.columns ++ pos 1 ∷ p in
    let here = means_at rows v zs i old.number within old.means in
    let w = cut_at n place (row_at rows i) new old.columns (pos 1 ∷ p) (get_or zs i (pos 0)) run at.0 is
    old.columns_size old.not_negative
    here (tied old.columns old.columns_size) in
    let e : zs ++ w.0 ∷ [] ≡ x ++ (old.more ++ w.0 ∷ []) = append_assoc x old.more (w.0 ∷ []) in
    let number : length (zs ++ w.0 ∷ []) ≡ length (rows ++ new ∷ []) =
    let l = simp length-append at old.number in simp length-append (omega arith) in
    record {
      columns = old.columns;
      more = old.more ++ w.0 ∷ [];
      size = old.size;
      columns_size = old.columns_size;
      not_negative = old.not_negative;
      number = subst (λ (ws : List ℤ). length ws ≡ length (rows ++ new ∷ [])) e number;
      rows_not_negative = subst NotNegative e (not_negative-append zs (w.0 ∷ []) old.rows_not_negative (w.1, tt));
      means =
          subst (λ (ws : List ℤ). Means (rows ++ new ∷ []) v ws) e
          (means_more rows new v zs w.0 old.number old.means w.2);
    }

pub means_front : (rows more : List Row) (v zs : List ℤ) → Means (rows ++ more) v zs
    → Means rows v (take (length rows) zs)
means_front [] more v zs means = tt
means_front (row ∷ rows) more v [] means = tt
means_front (row ∷ rows) more v (z ∷ zs) means = (means.0, means_front rows more v zs means.1)

pub take-behind : (x more : List ℤ) (k : ℕ) → length x ≤ k → take k (x ++ more) ≡ x ++ take (k - length x) more
take-behind [] more k h =
    let e : k ≡ k - length {A = ℤ} [] = omega arith in
    ap (λ (j : ℕ). take j more) e
take-behind (y ∷ x) more zero h = absurd (omega arith)
take-behind (y ∷ x) more (suc k) h =
    let e : suc k - length (y ∷ x) ≡ k - length x = omega arith in
    ap (λ (zs : List ℤ). y ∷ zs) (take-behind x more k (omega arith)) ∙ ap (λ (j : ℕ). y ∷ (x ++ take j more)) (sym e)

pub cut_back : (n : ℕ) (rows more : List Row) (p x : List ℤ) → n ≤ length rows → IsSolution n (rows ++ more) p x
    → IsSolution n rows p x
cut_back n rows more p x many new =
    let k = length rows in
    let v = new.columns ++ pos 1 ∷ p in
    let rest = take (k - length x) new.more in
    let e : take k (x ++ new.more) ≡ x ++ rest = take-behind x new.more k (let s = new.size in omega arith) in
    let l : length (x ++ new.more) ≡ length rows + length more = new.number ∙ simp length-append refl in
    record {
      columns = new.columns;
      more = rest;
      size = new.size;
      columns_size = new.columns_size;
      not_negative = new.not_negative;
      number = subst (λ (zs : List ℤ). length zs ≡ length rows) e (length-take-le k (x ++ new.more) (omega arith));
      rows_not_negative = subst NotNegative e
          (not_negative-parts (take k (x ++ new.more)) (drop k (x ++ new.more))
          (subst NotNegative (sym (take-append-drop k (x ++ new.more))) new.rows_not_negative)).0;
      means = subst (λ (zs : List ℤ). Means rows v zs) e (means_front rows more v (x ++ new.more) new.means);
    }

-- the law of a cut
pub more_tableau : (n m : ℕ) (rows : List Row) (new : Row) → IsTableau n m rows → pos 0 <ℤ new.denominator
    → length new.entries ≡ n + 1 + m
    → IsTableau n m (rows ++ new ∷ [])
more_tableau n m rows new is positive size =
    record {
      sized = sized_more (n + 1 + m) rows new is.sized positive size;
      many = let k = is.many in simp length-append (omega arith);
      columns = λ j low. longer (is.columns j low);
    }
  where
    front : (rows : List Row) (k : ℕ) → k < length rows → row_at (rows ++ new ∷ []) k ≡ row_at rows k
    front [] k h = absurd (omega arith)
    front (row ∷ rows) zero h = refl
    front (row ∷ rows) (suc k) h = front rows k (omega arith)

    longer : {j : ℕ} → HasColumn j rows → HasColumn j (rows ++ new ∷ [])
    longer {j} has =
        record {
          place = has.place;
          within = let w = has.within in simp length-append (omega arith);
          is = subst (IsColumn j) (sym (front rows has.place has.within)) has.is;
        }

pub cut_keeps_tableau : (n m i : ℕ) (place : Option ℕ) (rows : List Row) (new : Row) → IsTableau n m rows
    → i < length rows
    → cut_run n place (row_at rows i) ≡ Ok new → IsTableau n m (rows ++ new ∷ [])
cut_keeps_tableau n m i place rows new is within run =
    let at = sized_at (n + 1 + m) rows i within is.sized in
    let size = cut_sized n place (row_at rows i) new at.0 run in
    more_tableau n m rows new is size.0 (size.1 ∙ at.1)

pub cut_keeps_solutions : (n m i : ℕ) (place : Option ℕ) (rows : List Row) (new : Row) → IsTableau n m rows
    → i < length rows
    → IsPlaced n m place → cut_run n place (row_at rows i) ≡ Ok new
    → (p : List ℤ) → length p ≡ m → IsTied n place (row_at rows i) p → HaveSameSolutions n rows (rows ++ new ∷ []) p
cut_keeps_solutions n m i place rows new is within placed run p same tied x =
    let at = sized_at (n + 1 + m) rows i within is.sized in (
      cut_forth n rows new p x i place (subst (λ (k : ℕ). Sized (n + 1 + k) rows) (sym same) is.sized) within run
          (is_place n m place (row_at rows i) placed at.1) tied,
      cut_back n rows (new ∷ []) p x is.many,
    )

-- the law of a pivot in the column that its row chooses; a row without a positive entry moves nothing
pub pivot_run_keeps : (n m r : ℕ) (rows news : List Row) → IsTableau n m rows → r < length rows
    → pivot_run n rows r ≡ Ok news
    → IsTableau n m news × ((p : List ℤ) → length p ≡ m → HaveSameSolutions n rows news p)
pivot_run_keeps n m r rows news is within run =
    pivot_run_by n r rows news
    (λ (k : List Row). IsTableau n m k × ((p : List ℤ) → length p ≡ m → HaveSameSolutions n rows k p)) run
    (is, λ p size x. (λ h. h, λ h. h))
    (λ s best moved. (
      pivot_keeps_tableau n m r s rows news is within best.0 best.1 moved,
      pivot_keeps_solutions n m r s rows news is within best.0 best.1 moved,
    ))
