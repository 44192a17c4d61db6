-- What stands holds of a problem's tableau at first.
use Rattle.whole_numbers.proofs.Common.{◌↔◌, ◌<◌, ◌≡◌, ◌≢◌, ℕ, zero, suc, ◌+◌, ◌≤◌, ℤ, pos, ◌≤ℤ◌, ◌<ℤ◌, inl, inr, List}
use Rattle.whole_numbers.proofs.Common.{[], ◌∷◌, ◌++◌, length, set, get_or, map, drop, take, refl, subst, ap, ap₂, sym}
use Rattle.whole_numbers.proofs.Common.{◌∙◌, arith, length-append, append_assoc, drop-cons, ints, by_lt_z}
use Rattle.whole_numbers.proofs.Common.{length-take-le, get_or-set_same, get_or-set_other, take-append-drop}
use Rattle.whole_numbers.proofs.Common.{length-drop, take-append_seam, drop-append_seam, dite, ℕ_discrete}
use Rattle.whole_numbers.proofs.Common.{LexNotNegative, not_negative-append, dot, zeros, NotNegative, Affine, value_of}
use Rattle.whole_numbers.proofs.Common.{mul_one_left, mul_one_right, length-zeros, dot-unit, dot-append, get_or-zeros}
use Rattle.std.proofs.Math.ListN.{length-set}
use Rattle.tableau_rows.specs.Rows.{Row, entry, At, Means, Sized}
use Rattle.tableau_rows.specs.Solutions.{IsSolution, IsColumn, HasColumn, IsTableau}
use Rattle.tableau_rows.specs.Moves.{row_at, unit_row}
use Rattle.tableau_rows.specs.Problem.{problem_of, row_values, IsPoint, entries_of, unit_rows, given_rows, first_rows}
use Rattle.tableau_rows.specs.Problem.{Speaks}
use Rattle.tableau_rows.proofs.KeptInvariant.{solution_inside}
use Rattle.tableau_rows.proofs.Invariant.{column, values, IsInside, Stands}
use Rattle.tableau_rows.proofs.Points.{means_shorter}

-- the given rows' entries
abbrev pub givens_of : ℕ → List Affine → List (List ℤ)
givens_of n fs = map (λ (f : Affine). entries_of n f) fs

-- the dot product with a row's entries is the row's value
pub dot-entries : (n : ℕ) (f : Affine) (xs p : List ℤ) → length xs ≡ n → n ≤ length f.coefficients
    → dot (entries_of n f) (xs ++ pos 1 ∷ p) ≡ value_of f (xs ++ p)
dot-entries n f xs p size long =
    let a = take n f.coefficients in
    let b = drop n f.coefficients in
    let same = length-take-le n f.coefficients long in
    let c = dot-append a (f.constant ∷ b) xs (pos 1 ∷ p) (same ∙ sym size) in
    let d = dot-append a b xs p (same ∙ sym size) in
    let e = ap (λ (es : List ℤ). dot es (xs ++ p)) (take-append-drop n f.coefficients) in
    let one = mul_one_right f.constant in
    omega (arith, ints)

pub values-entries : (n k : ℕ) (fs : List Affine) (xs p : List ℤ) → length xs ≡ n → n ≤ k → Speaks k fs
    → values (givens_of n fs) (xs ++ pos 1 ∷ p) ≡ row_values fs (xs ++ p)
values-entries n k [] xs p size long speaks = refl
values-entries n k (f ∷ fs) xs p size long speaks =
    ap₂ (λ (z : ℤ) (zs : List ℤ). z ∷ zs) (dot-entries n f xs p size (let e = speaks.0 in omega arith))
    (values-entries n k fs xs p size long speaks.1)

-- the two ways to say that xs is a whole point
pub inside_point : (n k : ℕ) (fs : List Affine) (p xs : List ℤ) → n ≤ k → Speaks k fs
    → IsInside n (givens_of n fs) p xs
    → IsPoint (problem_of n fs) p xs
inside_point n k fs p xs long speaks h =
    record {
      size = h.size;
      not_negative = h.not_negative;
      rows = subst NotNegative
          (values-entries n k fs xs p h.size long speaks) h.rows;
    }

pub point_inside : (n k : ℕ) (fs : List Affine) (p xs : List ℤ) → n ≤ k → Speaks k fs → IsPoint (problem_of n fs) p xs
    → IsInside n (givens_of n fs) p xs
point_inside n k fs p xs long speaks h =
    record {
      size = h.size;
      not_negative = h.not_negative;
      rows = subst NotNegative
          (sym (values-entries n k fs xs p h.size long speaks)) h.rows;
    }

-- sizes
pub length-unit_rows : (m i k : ℕ) → length (unit_rows m i k) ≡ k
length-unit_rows m i zero = refl
length-unit_rows m i (suc k) = let more = length-unit_rows m (suc i) k in omega arith

pub sized_units : (m i k : ℕ) → Sized m (unit_rows m i k)
sized_units m i zero = tt
sized_units m i (suc k) = (omega (arith, ints), simp length-set (length-zeros m), sized_units m (suc i) k)

pub length-entries_of : (n : ℕ) (f : Affine) → n ≤ length f.coefficients
    → length (entries_of n f) ≡ length f.coefficients + 1
length-entries_of n f long =
    let a = length-take-le n f.coefficients long in
    let b = length-drop n f.coefficients in
    simp length-append (omega arith)

pub sized_givens : (n k : ℕ) (fs : List Affine) → n ≤ k → Speaks k fs → Sized (k + 1) (given_rows n fs)
sized_givens n k [] long speaks = tt
sized_givens n k (f ∷ fs) long speaks =
    let e = speaks.0 in (
      omega (arith, ints),
      length-entries_of n f (omega arith) ∙ ap (λ (j : ℕ). j + 1) e,
      sized_givens n k fs long speaks.1,
    )

pub sized-append : (m : ℕ) (rows more : List Row) → Sized m rows → Sized m more → Sized m (rows ++ more)
sized-append m [] more h k = k
sized-append m (row ∷ rows) more h k = (h.0, h.1, sized-append m rows more h.2 k)

-- the unknowns' columns
pub up_units : (m j i k : ℕ) → LexNotNegative (column j (unit_rows m i k))
up_units m j i zero = tt
up_units m j i (suc k) =
    dite (ℕ_discrete j i)
    (λ (e : j ≡ i). at e (up_units m j (suc i) k))
    (λ (ne : j ≢ i). inr (
      get_or-set_other (zeros m) i j (pos 1) (pos 0) ne ∙ get_or-zeros m j,
      up_units m j (suc i)
          k,
    ))
  where
    at : j ≡ i → LexNotNegative (column j (unit_rows m (suc i) k)) → LexNotNegative (column j (unit_rows m i (suc k)))
    at e up =
        by_lt_z (pos 0) (entry (unit_row m i) j)
        (λ (l : pos 0 <ℤ entry (unit_row m i) j). inl l)
        (λ (l : entry (unit_row m i) j ≤ℤ pos 0). inr (zero_entry l, up))
      where
        zero_entry : entry (unit_row m i) j ≤ℤ pos 0 → entry (unit_row m i) j ≡ pos 0
        zero_entry l = let low = not_below m i j in omega (arith, ints)
          where
            not_below : (m i j : ℕ) → pos 0 ≤ℤ get_or (set (zeros m) i (pos 1)) j (pos 0)
            not_below zero i j = omega (arith, ints)
            not_below (suc m) zero zero = omega (arith, ints)
            not_below (suc m) zero (suc j) = let e = get_or-zeros m j in omega (arith, ints)
            not_below (suc m) (suc i) zero = omega (arith, ints)
            not_below (suc m) (suc i) (suc j) = not_below m i j

-- the unknowns are their columns
pub means_units : (m : ℕ) (front xs t : List ℤ) → length front + length xs ≤ m
    → Means (unit_rows m (length front) (length xs)) ((front ++ xs) ++ t) xs
means_units m front [] t within = tt
means_units m front (x ∷ xs) t within = (
  here,
  subst (λ (i : ℕ). Means (unit_rows m i (length xs)) ((front ++ x ∷ xs) ++ t) xs) (simp length-append (omega arith))
      (subst (λ (v : List ℤ). Means (unit_rows m (length (front ++ x ∷ [])) (length xs)) (v ++ t) xs)
      (append_assoc front (x ∷ []) xs)
      (means_units m (front ++ x ∷ []) xs t (simp length-append (omega arith)))),
)
  where
    here : At (unit_row m (length front)) ((front ++ x ∷ xs) ++ t) x
    here =
        let a = dot-unit m (length front) ((front ++ x ∷ xs) ++ t) (omega arith) in
        let b = mul_one_left x in
        let c = at_seam front x xs t in
        omega (arith, ints)
      where
        at_seam : (front : List ℤ) (x : ℤ) (xs t : List ℤ) → get_or ((front ++ x ∷ xs) ++ t) (length front) (pos 0) ≡ x
        at_seam [] x xs t = refl
        at_seam (y ∷ front) x xs t = at_seam front x xs t

pub units_are : (m k : ℕ) (front v xs : List ℤ) → length xs ≡ k → length front + k ≤ m → length front + k ≤ length v
    → Means (unit_rows m (length front) k) v xs → take k (drop (length front) v) ≡ xs
units_are m zero front v [] size within long means = refl
units_are m zero front v (x ∷ xs) size within long means = absurd (omega arith)
units_are m (suc k) front v [] size within long means = absurd (omega arith)
units_are m (suc k) front v (x ∷ xs) size within long means =
    let a = dot-unit m (length front) v (omega arith) in
    let b = mul_one_left x in
    let at = means.0 in
    let c : get_or v (length front) (pos 0) ≡ x = omega (arith, ints) in
    let d = drop-cons v (length front) (pos 0) (omega arith) in
    let e : suc (length front) ≡ length (front ++ x ∷ []) = simp length-append (omega arith) in
    let more = units_are m k (front ++ x ∷ []) v xs (omega arith) (simp length-append (omega arith))
    (simp length-append (omega arith))
    (subst (λ (i : ℕ). Means (unit_rows m i k) v xs) e means.1) in
    let f = subst (λ (i : ℕ). take k (drop i v) ≡ xs) (sym e) more in
    rw d (ap₂ (λ (z : ℤ) (zs : List ℤ). z ∷ zs) c f)

-- the given rows at a point
pub means_givens : (n : ℕ) (fs : List Affine) (v : List ℤ) → Means (given_rows n fs) v (values (givens_of n fs) v)
means_givens n [] v = tt
means_givens n (f ∷ fs) v = (mul_one_left (dot (entries_of n f) v), means_givens n fs v)

pub means-append : (rows more : List Row) (v xs ys : List ℤ) → length xs ≡ length rows → Means rows v xs
    → Means more v ys → Means (rows ++ more) v (xs ++ ys)
means-append [] more v [] ys same a b = b
means-append [] more v (x ∷ xs) ys same a b = absurd (omega arith)
means-append (row ∷ rows) more v [] ys same a b = absurd (omega arith)
means-append (row ∷ rows) more v (x ∷ xs) ys same a b = (a.0, means-append rows more v xs ys (omega arith) a.1 b)

pub length-givens : (n : ℕ) (fs : List Affine) (v : List ℤ)
    → length (values (givens_of n fs) v) ≡ length (given_rows n fs)
length-givens n [] v = refl
length-givens n (f ∷ fs) v = let more = length-givens n fs v in omega arith

-- what stands at first
pub stands_first : (n : ℕ) (fs : List Affine) (p : List ℤ) → Speaks (n + length p) fs
    → Stands n (givens_of n fs) (first_rows (length p) (problem_of n fs)) p
stands_first n fs p speaks =
    let m = n + 1 + length p in
    let us = unit_rows m 0 n in
    let gs = given_rows n fs in
    let count = length-unit_rows m 0 n in
    let e : n + length p + 1 ≡ m = omega arith in
    record {
      sized =
          sized-append m us gs (sized_units m 0 n)
          (subst (λ (k : ℕ). Sized k gs) e (sized_givens n (n + length p) fs (omega arith) speaks));
      many = simp length-append (omega arith);
      up =
          λ j below. subst (λ (rs : List Row). LexNotNegative (column j rs)) (sym (front us gs count))
          (up_units m j 0 n);
      faithful = λ v xs long size means.
          let short = means_shorter us gs v xs (omega arith) means in
          let is : take n v ≡ xs = units_are m n [] v xs size (omega arith) (omega arith) short in
          let whole : xs ++ drop n v ≡ v = ap (λ (ys : List ℤ). ys ++ drop n v) (sym is) ∙ take-append-drop n v in
          subst (λ (rs : List Row). Means rs v (values (givens_of n fs) (xs ++ drop n v))) (sym (back us gs count))
          (subst (λ (w : List ℤ). Means gs v (values (givens_of n fs) w)) (sym whole) (means_givens n fs v));
      reached = λ xs inside. begun m us gs count xs inside refl refl;
    }
  where
    front : (us gs : List Row) → length us ≡ n → take n (us ++ gs) ≡ us
    front us gs count = subst (λ (k : ℕ). take k (us ++ gs) ≡ us) count (take-append_seam us gs)

    back : (us gs : List Row) → length us ≡ n → drop n (us ++ gs) ≡ gs
    back us gs count = subst (λ (k : ℕ). drop k (us ++ gs) ≡ gs) count (drop-append_seam us gs)

    begun : (m : ℕ) (us gs : List Row) → length us ≡ n → (xs : List ℤ) → IsInside n (givens_of n fs) p xs
        → us ≡ unit_rows (n + 1 + length p) 0 n → gs ≡ given_rows n fs
        → IsSolution n (us ++ gs) p xs
    begun m us gs count xs inside e f =
        let v = xs ++ pos 1 ∷ p in
        let a = means_units (n + 1 + length p) [] xs (pos 1 ∷ p) (let k = inside.size in omega arith) in
        let b = subst (λ (k : ℕ). Means (unit_rows (n + 1 + length p) 0 k) v xs) inside.size a in
        let c = subst (λ (rs : List Row). Means rs v xs) (sym e) b in
        let d = subst (λ (rs : List Row). Means rs v (values (givens_of n fs) v)) (sym f) (means_givens n fs v) in
        let g : length (values (givens_of n fs) v) ≡ length gs = length-givens n fs v ∙ ap
        (λ (rs : List Row). length rs) (sym f) in
        let k = inside.size in
        record {
          columns = xs;
          columns_size = inside.size;
          more = values (givens_of n fs) v;
          size = inside.size;
          not_negative = inside.not_negative;
          number = simp length-append (omega arith);
          rows_not_negative = not_negative-append xs (values (givens_of n fs) v) inside.not_negative inside.rows;
          means = means-append us gs v xs (values (givens_of n fs) v) (omega arith) c d;
        }

-- at first the tableau's solutions are the problem's points
pub first_forth : (n : ℕ) (fs : List Affine) (p x : List ℤ) → Speaks (n + length p) fs → IsPoint (problem_of n fs) p x
    → IsSolution n (first_rows (length p) (problem_of n fs)) p x
first_forth n fs p x speaks is =
    (stands_first n fs p speaks).reached x (point_inside n (n + length p) fs p x (omega arith) speaks is)

pub first_back : (n : ℕ) (fs : List Affine) (p x : List ℤ) → Speaks (n + length p) fs
    → IsSolution n (first_rows (length p) (problem_of n fs)) p x → IsPoint (problem_of n fs) p x
first_back n fs p x speaks is =
    inside_point n (n + length p) fs p x (omega arith) speaks
    (solution_inside n (givens_of n fs) (first_rows (length p) (problem_of n fs)) p x (stands_first n fs p speaks) is)

pub first_columns : (n m : ℕ) (rows : List Row) (j : ℕ) → j < n → n ≤ m → HasColumn j (unit_rows m 0 n ++ rows)
first_columns n m rows j low wide =
    record {
      place = j;
      within = let c = length-unit_rows m 0 n in simp length-append (omega arith);
      is =
          subst (IsColumn j) (sym (unit_at m 0 n rows j low ∙ ap (λ (q : ℕ). unit_row m q)
          (let e : 0 + j ≡ j = omega arith in e))) (unit_column m j (omega arith));
    }
  where
    unit_at : (m i k : ℕ) (rows : List Row) (j : ℕ) → j < k → row_at (unit_rows m i k ++ rows) j ≡ unit_row m (i + j)
    unit_at m i zero rows j h = absurd (omega arith)
    unit_at m i (suc k) rows zero h = ap (λ (q : ℕ). unit_row m q) (let e : i ≡ i + 0 = omega arith in e)
    unit_at m i (suc k) rows (suc j) h =
        unit_at m (suc i) k rows j (omega arith) ∙ ap (λ (q : ℕ). unit_row m q)
        (let e : suc i + j ≡ i + suc j = omega arith in e)

    unit_column : (m j : ℕ) → j < m → IsColumn j (unit_row m j)
    unit_column m j low =
        record {
          own = get_or-set_same (zeros m) j (pos 1) (pos 0) (omega (arith, length-zeros m));
          others = λ i ne. get_or-set_other (zeros m) j i (pos 1) (pos 0) ne ∙ get_or-zeros m i;
        }

pub first_tableau : (n m : ℕ) (fs : List Affine) → Speaks (n + m) fs → IsTableau n m (first_rows m (problem_of n fs))
first_tableau n m fs speaks =
    let is = stands_first n fs (zeros m) (subst (λ (k : ℕ). Speaks (n + k) fs) (sym (length-zeros m)) speaks) in
    record {
      sized = subst (λ (k : ℕ). Sized (n + 1 + k) (first_rows k (problem_of n fs))) (length-zeros m) is.sized;
      many = subst (λ (k : ℕ). n ≤ length (first_rows k (problem_of n fs))) (length-zeros m) is.many;
      columns = λ j low. first_columns n (n + 1 + m) (given_rows n fs) j low (omega arith);
    }

pub first_solutions : (n m : ℕ) (fs : List Affine) → Speaks (n + m) fs → (p x : List ℤ) → length p ≡ m
    → IsPoint (problem_of n fs) p x ↔ IsSolution n (first_rows m (problem_of n fs)) p x
first_solutions n m fs speaks p x size =
    let about = subst (λ (k : ℕ). Speaks (n + k) fs) (sym size) speaks in (
      λ h. subst (λ (k : ℕ). IsSolution n (first_rows k (problem_of n fs)) p x) size (first_forth n fs p x about h),
      λ h. first_back n fs p x about
          (subst (λ (k : ℕ). IsSolution n (first_rows k (problem_of n fs)) p x) (sym size) h),
    )
