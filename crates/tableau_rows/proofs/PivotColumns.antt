-- The column that a pivot takes is the least among those with a positive entry in the pivot row.
use Rattle.whole_numbers.proofs.Common.{◌≡◌, ◌≢◌, ℕ, zero, suc, ◌+◌, ◌<◌, ℤ, pos, negsuc, ◌+ℤ◌, ◌-ℤ◌, ◌*ℤ◌, ◌≤ℤ◌, ◌<ℤ◌}
use Rattle.whole_numbers.proofs.Common.{inl, inr, Bool, true, false, Option, Some, None, List, [], ◌∷◌, take, refl}
use Rattle.whole_numbers.proofs.Common.{subst, ap, sym, ◌∙◌, arith, Ok, if◌then◌else◌, ints, dite, ℕ_discrete}
use Rattle.whole_numbers.proofs.Common.{LexNotNegative, mul_comm_int, mul_zero_left, mul_zero_right, mul_sub_left}
use Rattle.whole_numbers.proofs.Common.{left_comm, mul_positive, mul_not_negative, cancel_eq, positive_factor}
use Rattle.affine_forms.specs.Checked.{product_of, ◌>>=◌}
use Rattle.affine_forms.proofs.CheckedSteps.{product_of-ok, chain-ok}
use Rattle.tableau_rows.specs.Rows.{Row, entry}
use Rattle.tableau_rows.specs.Moves.{is_below, is_positive, precedes_run, challenged_run, better_run, column_run}
use Rattle.tableau_rows.specs.Moves.{row_at, rows_run, pivot_in, pivot_run}
use Rattle.tableau_rows.proofs.Invariant.{compared}

pub below_true : (z : ℤ) → is_below z ≡ true → z <ℤ pos 0
below_true (pos n) h = cc
below_true (negsuc n) h = omega (arith, ints)

pub below_false : (z : ℤ) → is_below z ≡ false → pos 0 ≤ℤ z
below_false (pos n) h = omega (arith, ints)
below_false (negsuc n) h = cc

pub positive_true : (z : ℤ) → is_positive z ≡ true → pos 0 <ℤ z
positive_true (pos zero) h = cc
positive_true (pos (suc n)) h = omega (arith, ints)
positive_true (negsuc n) h = cc

pub positive_false : (z : ℤ) → is_positive z ≡ false → z ≤ℤ pos 0
positive_false (pos zero) h = omega (arith, ints)
positive_false (pos (suc n)) h = cc
positive_false (negsuc n) h = omega (arith, ints)

-- column s divided by its entry in the pivot row is at most column j divided by its own
abbrev pub Leads : ℕ → ℕ → Row → List Row → Type 0
Leads s j pivot rows = LexNotNegative (compared s j pivot rows)

pub leads-refl : (s : ℕ) (pivot : Row) (rows : List Row) → Leads s s pivot rows
leads-refl s pivot [] = tt
leads-refl s pivot (row ∷ rows) = inr (omega (arith, ints), leads-refl s pivot rows)

-- at each row the differences of three columns
triangle : (ei ej es ai aj as' : ℤ)
    → aj *ℤ ((ei *ℤ as') -ℤ (es *ℤ ai)) ≡ (as' *ℤ ((ei *ℤ aj) -ℤ (ej *ℤ ai))) +ℤ (ai *ℤ ((ej *ℤ as') -ℤ (es *ℤ aj)))
triangle ei ej es ai aj b =
    let c = mul_sub_left (ei *ℤ b) (es *ℤ ai) aj in
    let d = mul_sub_left (ei *ℤ aj) (ej *ℤ ai) b in
    let e = mul_sub_left (ej *ℤ b) (es *ℤ aj) ai in
    let f = left_comm aj ei b ∙ ap (λ (k : ℤ). ei *ℤ k) (mul_comm_int aj b) ∙ left_comm ei b aj in
    let g = left_comm b ej ai ∙ ap (λ (k : ℤ). ej *ℤ k) (mul_comm_int b ai) ∙ left_comm ej ai b in
    let h = left_comm aj es ai ∙ ap (λ (k : ℤ). es *ℤ k) (mul_comm_int aj ai) ∙ left_comm es ai aj in
    omega (arith, ints)

pub leads-trans : (s j i : ℕ) (pivot : Row) (rows : List Row) → pos 0 <ℤ entry pivot s → pos 0 <ℤ entry pivot j
    → pos 0 <ℤ entry pivot i
    → Leads s j pivot rows → Leads j i pivot rows → Leads s i pivot rows
leads-trans s j i pivot [] ps pj pi us ui = tt
leads-trans s j i pivot (row ∷ rows) ps pj pi us ui =
    by_signs us ui (λ h m. leads-trans s j i pivot rows ps pj pi h m)
  where
    u : ℤ
    u = (entry row j *ℤ entry pivot s) -ℤ (entry row s *ℤ entry pivot j)

    w : ℤ
    w = (entry row i *ℤ entry pivot j) -ℤ (entry row j *ℤ entry pivot i)

    z : ℤ
    z = (entry row i *ℤ entry pivot s) -ℤ (entry row s *ℤ entry pivot i)

    sum : entry pivot j *ℤ z ≡ (entry pivot s *ℤ w) +ℤ (entry pivot i *ℤ u)
    sum = triangle (entry row i) (entry row j) (entry row s) (entry pivot i) (entry pivot j) (entry pivot s)

    first : pos 0 <ℤ u → pos 0 ≤ℤ w → pos 0 <ℤ z
    first l h =
        let a = mul_positive (entry pivot i) u pi l in
        let b = mul_not_negative (entry pivot s) w (omega (arith, ints)) h in
        let t = sum in
        positive_factor (entry pivot j) z pj (omega (arith, ints))

    second : pos 0 ≤ℤ u → pos 0 <ℤ w → pos 0 <ℤ z
    second h l =
        let a = mul_not_negative (entry pivot i) u (omega (arith, ints)) h in
        let b = mul_positive (entry pivot s) w ps l in
        let t = sum in
        positive_factor (entry pivot j) z pj (omega (arith, ints))

    by_signs : Leads s j pivot (row ∷ rows) → Leads j i pivot (row ∷ rows)
        → (Leads s j pivot rows → Leads j i pivot rows → Leads s i pivot rows) → Leads s i pivot (row ∷ rows)
    by_signs (inl l) (inl m) more = inl (first l (omega (arith, ints)))
    by_signs (inl l) (inr m) more = inl (first l (let e = m.0 in omega (arith, ints)))
    by_signs (inr h) (inl m) more = inl (second (let e = h.0 in omega (arith, ints)) m)
    by_signs (inr h) (inr m) more =
        let a = ap (λ (k : ℤ). entry pivot i *ℤ k) h.0 in
        let b = ap (λ (k : ℤ). entry pivot s *ℤ k) m.0 in
        let c = mul_zero_right (entry pivot i) in
        let d = mul_zero_right (entry pivot s) in
        let e = mul_comm_int (entry pivot j) z in
        let f = mul_zero_left (entry pivot j) in
        let t = sum in
        let zero = cancel_eq z (pos 0) (entry pivot j) pj (omega (arith, ints)) in
        inr (zero, more h.1 m.1)

-- what the comparison says
abbrev pub Compared : ℕ → ℕ → Row → List Row → Bool → Type 0
Compared j s pivot rows true = Leads j s pivot rows
Compared j s pivot rows false = Leads s j pivot rows

pub precedes_run-says : (j s : ℕ) (pivot : Row) (rows : List Row) (b : Bool)
    → precedes_run (entry pivot j) (entry pivot s) j s rows ≡ Ok b
    → Compared j s pivot rows b
precedes_run-says j s pivot [] b h = let e : b ≡ false = cc in subst (Compared j s pivot []) (sym e) tt
precedes_run-says j s pivot (row ∷ rows) b h =
    let aj = entry pivot j in
    let bs = entry pivot s in
    let rest = precedes_run aj bs j s rows in
    let c = chain-ok (product_of (entry row j) bs) (λ (new : ℤ). product_of (entry row s) aj >>= λ old.
    if is_below (new -ℤ old) then Ok true else if is_below (old -ℤ new) then Ok false else rest) b h in
    let d = chain-ok (product_of (entry row s) aj) (λ (old : ℤ).
    if is_below (c.0 -ℤ old) then Ok true else if is_below (old -ℤ c.0) then Ok false else rest) b c.2 in
    let p = ((product_of-ok (entry row j) bs c.0).0 c.1).0 in
    let q = ((product_of-ok (entry row s) aj d.0).0 d.1).0 in
    decided c.0 d.0 (is_below (c.0 -ℤ d.0)) (is_below (d.0 -ℤ c.0)) refl refl p q
    (λ e. precedes_run-says j s pivot rows b e) d.2
  where
    both : (new old : ℤ) (c : Bool) → is_below (new -ℤ old) ≡ false → is_below (old -ℤ new) ≡ c
        → new ≡ entry row j *ℤ entry pivot s → old ≡ entry row s *ℤ entry pivot j
        → (precedes_run (entry pivot j) (entry pivot s) j s rows ≡ Ok b → Compared j s pivot rows b)
        → (if c then Ok false else precedes_run (entry pivot j) (entry pivot s) j s rows) ≡ Ok b
        → Compared j s pivot (row ∷ rows) b
    both new old true e f p q more h =
        let g : b ≡ false = cc in
        let l = below_true (old -ℤ new) f in
        subst (Compared j s pivot (row ∷ rows)) (sym g) (inl (omega (arith, ints)))
    both new old false e f p q more h = equal b (more h)
      where
        equal : (b : Bool) → Compared j s pivot rows b → Compared j s pivot (row ∷ rows) b
        equal true up =
            let l = below_false (old -ℤ new) f in let m = below_false (new -ℤ old) e in inr (omega (arith, ints), up)
        equal false up =
            let l = below_false (old -ℤ new) f in let m = below_false (new -ℤ old) e in inr (omega (arith, ints), up)

    decided : (new old : ℤ) (a c : Bool) → is_below (new -ℤ old) ≡ a → is_below (old -ℤ new) ≡ c
        → new ≡ entry row j *ℤ entry pivot s → old ≡ entry row s *ℤ entry pivot j
        → (precedes_run (entry pivot j) (entry pivot s) j s rows ≡ Ok b → Compared j s pivot rows b)
        → (if a then Ok true else if c then Ok false else precedes_run (entry pivot j) (entry pivot s) j s rows) ≡ Ok b
        → Compared j s pivot (row ∷ rows) b
    decided new old true c e f p q more h =
        let g : b ≡ true = cc in
        let l = below_true (new -ℤ old) e in
        subst (Compared j s pivot (row ∷ rows)) (sym g) (inl (omega (arith, ints)))
    decided new old false c e f p q more h = both new old c e f p q more h

-- the best of the first columns: none where no entry is positive, else one that leads each that has a positive entry
abbrev pub IsBest : Row → List Row → ℕ → Option ℕ → Type 0
IsBest pivot rows k None = (j : ℕ) → j < k → entry pivot j ≤ℤ pos 0
IsBest pivot rows k (Some s) =
    (s < k) × (pos 0 <ℤ entry pivot s) × ((j : ℕ) → j < k → pos 0 <ℤ entry pivot j → Leads s j pivot rows)

-- one column more
pub better_run-best : (pivot : Row) (rows : List Row) (j : ℕ) (best next : Option ℕ) → IsBest pivot rows j best
    → better_run rows pivot j best ≡ Ok next → IsBest pivot rows (suc j) next
better_run-best pivot rows j best next is h = by_entry (is_positive (entry pivot j)) best refl is h
  where
    skipped : (best : Option ℕ) → entry pivot j ≤ℤ pos 0 → IsBest pivot rows j best → IsBest pivot rows (suc j) best
    skipped None l is =
        λ i below. dite (ℕ_discrete i j) (λ (e : i ≡ j). subst (λ (k : ℕ). entry pivot k ≤ℤ pos 0) (sym e) l)
        (λ (ne : i ≢ j). is i (omega arith))
    skipped (Some s) l is = (
      omega (arith, is.0),
      is.1,
      λ i below positive.
          dite (ℕ_discrete i j)
          (λ (e : i ≡ j). let p = subst (λ (k : ℕ). pos 0 <ℤ entry pivot k) e positive in absurd (omega (arith, ints)))
          (λ (ne : i ≢ j). is.2 i (omega arith) positive),
    )

    first : pos 0 <ℤ entry pivot j → IsBest pivot rows j None → IsBest pivot rows (suc j) (Some j)
    first here is = (
      omega arith,
      here,
      λ i below positive.
          dite (ℕ_discrete i j)
          (λ (e : i ≡ j). subst (λ (k : ℕ). Leads j k pivot rows) (sym e) (leads-refl j pivot rows))
          (λ (ne : i ≢ j). let l = is i (omega arith) in absurd (omega (arith, ints))),
    )

    kept : (s : ℕ) (b : Bool) → pos 0 <ℤ entry pivot j → Compared j s pivot rows b → IsBest pivot rows j (Some s)
        → IsBest pivot rows (suc j) (Some (if b then j else s))
    kept s true here up is = (
      omega arith,
      here,
      λ i below positive.
          dite (ℕ_discrete i j)
          (λ (e : i ≡ j). subst (λ (k : ℕ). Leads j k pivot rows) (sym e) (leads-refl j pivot rows))
          (λ (ne : i ≢ j). leads-trans j s i pivot rows here is.1 positive up (is.2 i (omega arith) positive)),
    )
    kept s false here up is = (
      omega (arith, is.0),
      is.1,
      λ i below positive.
          dite (ℕ_discrete i j)
          (λ (e : i ≡ j). subst (λ (k : ℕ). Leads s k pivot rows) (sym e) up)
          (λ (ne : i ≢ j). is.2 i (omega arith) positive),
    )

    challenged : (best : Option ℕ) → pos 0 <ℤ entry pivot j → IsBest pivot rows j best
        → challenged_run rows pivot j best ≡ Ok next
        → IsBest pivot rows (suc j) next
    challenged None here is h = let e : next ≡ Some j = cc in subst (IsBest pivot rows (suc j)) (sym e) (first here is)
    challenged (Some s) here is h =
        let c = chain-ok (precedes_run (entry pivot j) (entry pivot s) j s rows)
        (λ (b : Bool). Ok (Some (if b then j else s))) next h in
        let e : next ≡ Some (if c.0 then j else s) = cc (c.2) in
        subst (IsBest pivot rows (suc j)) (sym e) (kept s c.0 here (precedes_run-says j s pivot rows c.0 c.1) is)

    by_entry : (b : Bool) (best : Option ℕ) → is_positive (entry pivot j) ≡ b → IsBest pivot rows j best
        → (if b then challenged_run rows pivot j best else Ok best) ≡ Ok next → IsBest pivot rows (suc j) next
    by_entry true best e is h = challenged best (positive_true (entry pivot j) e) is h
    by_entry false best e is h =
        let f : next ≡ best = cc in subst (IsBest pivot rows (suc j)) (sym f)
        (skipped best (positive_false (entry pivot j) e) is)

-- all columns
pub column_run-best : (pivot : Row) (rows : List Row) (k j n : ℕ) (best next : Option ℕ) → j + k ≡ n
    → IsBest pivot rows j best
    → column_run rows pivot k j best ≡ Ok next → IsBest pivot rows n next
column_run-best pivot rows zero j n best next all is h =
    let e : next ≡ best = cc in
    let f : j ≡ n = omega arith in
    subst (IsBest pivot rows n) (sym e) (subst (λ (i : ℕ). IsBest pivot rows i best) f is)
column_run-best pivot rows (suc k) j n best next all is h =
    let c = chain-ok (better_run rows pivot j best) (λ (b : Option ℕ). column_run rows pivot k (suc j) b) next h in
    column_run-best pivot rows k (suc j) n c.0 next (omega arith) (better_run-best pivot rows j best c.0 is c.1) c.2

-- what holds of the rows, and of those behind a pivot in the best column, holds behind the move; a row without a
-- positive entry moves nothing
pub pivot_run_by : (n r : ℕ) (rows news : List Row) (P : List Row → Type 0) → pivot_run n rows r ≡ Ok news → P rows
    → ((s : ℕ) → IsBest (row_at rows r) (take n rows) n (Some s) → rows_run r s (row_at rows r) 0 rows ≡ Ok news
    → P news) → P news
unfolding pivot_run
pivot_run_by n r rows news P run stays moves =
    let pivot = row_at rows r in
    let c = chain-ok (column_run (take n rows) pivot n 0 None) (λ (s : Option ℕ). pivot_in rows r s) news run in
    let none : IsBest pivot (take n rows) 0 None = λ j below. absurd (omega arith) in
    chosen c.0 (column_run-best pivot (take n rows) n 0 n None c.0 (omega arith) none c.1) c.2
  where
    chosen : (s : Option ℕ) → IsBest (row_at rows r) (take n rows) n s → pivot_in rows r s ≡ Ok news → P news
    chosen None best h = let e : rows ≡ news = cc in subst P e stays
    chosen (Some s) best h = moves s best h
