-- What a pivot keeps, of rows that are combined with one row and brought to lower terms.
use Rattle.whole_numbers.proofs.Common.{◌≡◌, ℕ, zero, suc, ◌<◌, ℤ, pos, ◌+ℤ◌, ◌-ℤ◌, ◌*ℤ◌, List, [], ◌∷◌, ◌++◌, length}
use Rattle.whole_numbers.proofs.Common.{set, get_or, drop, refl, subst, ap, sym, ◌∙◌, arith, ints, get_or-set_same, dot}
use Rattle.whole_numbers.proofs.Common.{multiples, multiples-append, mul_distrib_left, mul_sub_left, mul_sub_right}
use Rattle.whole_numbers.proofs.Common.{mul_assoc_int, left_comm, mul_comm_int, cancel_eq, dot-set, dot-set_left}
use Rattle.whole_numbers.proofs.Common.{dot-multiples, dot-multiples_right, length-multiples, get_or-multiples}
use Rattle.std.proofs.lemmas.List.{drop-set-lt}
use Rattle.std.proofs.Math.ListN.{length-set}
use Rattle.whole_numbers.proofs.Lists.{drop-multiples}
use Rattle.tableau_rows.specs.Rows.{Row, entry, At, Means, Sized}
use Rattle.tableau_rows.proofs.Invariant.{crossed, combined, IsLowered, Pivoted, before, values, Faithful}

-- the dot product of a crossed list
pub dot-crossed : (a b : ℤ) (xs ys v : List ℤ) → length xs ≡ length ys
    → dot (crossed a b xs ys) v ≡ (a *ℤ dot xs v) -ℤ (b *ℤ dot ys v)
dot-crossed a b [] [] v h = omega (arith, ints)
dot-crossed a b [] (y ∷ ys) v h = absurd (omega arith)
dot-crossed a b (x ∷ xs) [] v h = absurd (omega arith)
dot-crossed a b (x ∷ xs) (y ∷ ys) [] h = omega (arith, ints)
dot-crossed a b (x ∷ xs) (y ∷ ys) (z ∷ v) h =
    let more = dot-crossed a b xs ys v (omega arith) in
    let s = mul_sub_right (x *ℤ a) (b *ℤ y) z in
    let t = mul_distrib_left (x *ℤ z) (dot xs v) a in
    let u = mul_distrib_left (y *ℤ z) (dot ys v) b in
    let e = mul_assoc_int a x z in
    let f = mul_assoc_int b y z in
    let g = ap (λ (k : ℤ). k *ℤ z) (mul_comm_int x a) in
    omega (arith, ints)

-- its entries and its length
pub crossed-entry : (a b : ℤ) (xs ys : List ℤ) (i : ℕ) → length xs ≡ length ys
    → get_or (crossed a b xs ys) i (pos 0) ≡ (get_or xs i (pos 0) *ℤ a) -ℤ (b *ℤ get_or ys i (pos 0))
crossed-entry a b [] [] i h = omega (arith, ints)
crossed-entry a b [] (y ∷ ys) i h = absurd (omega arith)
crossed-entry a b (x ∷ xs) [] i h = absurd (omega arith)
crossed-entry a b (x ∷ xs) (y ∷ ys) zero h = refl
crossed-entry a b (x ∷ xs) (y ∷ ys) (suc i) h = crossed-entry a b xs ys i (omega arith)

pub length-crossed : (a b : ℤ) (xs ys : List ℤ) → length xs ≡ length ys → length (crossed a b xs ys) ≡ length xs
length-crossed a b [] ys h = refl
length-crossed a b (x ∷ xs) [] h = absurd (omega arith)
length-crossed a b (x ∷ xs) (y ∷ ys) h = let more = length-crossed a b xs ys (omega arith) in omega arith

-- the dot product of a combined row
pub dot-combined : (s : ℕ) (pivot row : Row) (v : List ℤ) → length row.entries ≡ length pivot.entries
    → s < length pivot.entries
    → dot (combined s pivot row).entries v
    ≡ ((entry pivot s *ℤ dot row.entries v) -ℤ (entry row s *ℤ dot pivot.entries v))
    +ℤ (entry row s *ℤ (pivot.denominator *ℤ get_or v s (pos 0)))
dot-combined s pivot row v same within =
    let a = entry pivot s in
    let b = entry row s in
    let zs = crossed a b row.entries pivot.entries in
    let size = length-crossed a b row.entries pivot.entries same in
    let c = dot-set_left zs v s (b *ℤ pivot.denominator) (omega arith) in
    let d = dot-crossed a b row.entries pivot.entries v same in
    let e = crossed-entry a b row.entries pivot.entries s same in
    let none : get_or zs s (pos 0) ≡ pos 0 = omega (arith, ints) in
    let f = ap (λ (k : ℤ). ((b *ℤ pivot.denominator) -ℤ k) *ℤ get_or v s (pos 0)) none in
    let g : (b *ℤ pivot.denominator) -ℤ pos 0 ≡ b *ℤ pivot.denominator = omega (arith, ints) in
    let h = ap (λ (k : ℤ). k *ℤ get_or v s (pos 0)) g in
    let i = mul_assoc_int b pivot.denominator (get_or v s (pos 0)) in
    omega (arith, ints)

-- a row in lower terms gives the same value
pub lowered_at : (row lower : Row) (v : List ℤ) (x : ℤ) → IsLowered row lower → At row v x → At lower v x
lowered_at row lower v x is at =
    let k = is.factor in
    let d = ap (λ (z : ℤ). z *ℤ x) is.denominators in
    let e = ap (λ (zs : List ℤ). dot zs v) is.entries in
    let f = dot-multiples k lower.entries v in
    let g = mul_assoc_int k lower.denominator x in
    cancel_eq (lower.denominator *ℤ x) (dot lower.entries v) k is.positive (omega (arith, ints))

pub raised_at : (row lower : Row) (v : List ℤ) (x : ℤ) → IsLowered row lower → At lower v x → At row v x
raised_at row lower v x is at =
    let k = is.factor in
    let d = ap (λ (z : ℤ). z *ℤ x) is.denominators in
    let e = ap (λ (zs : List ℤ). dot zs v) is.entries in
    let f = dot-multiples k lower.entries v in
    let g = mul_assoc_int k lower.denominator x in
    let h = ap (λ (z : ℤ). k *ℤ z) at in
    omega (arith, ints)

-- where the pivot row gives y, a combined row gives at y in place of the column what the row gives
pub combined_at : (s : ℕ) (pivot row : Row) (v : List ℤ) (x y : ℤ) → length row.entries ≡ length pivot.entries
    → s < length pivot.entries → s < length v
    → At pivot v y → At row v x → At (combined s pivot row) (set v s y) x
combined_at s pivot row v x y same within inside here at =
    let a = entry pivot s in
    let b = entry row s in
    let c = dot-combined s pivot row (set v s y) same within in
    let d = dot-set row.entries v s y inside in
    let e = dot-set pivot.entries v s y inside in
    let f = ap (λ (k : ℤ). b *ℤ (pivot.denominator *ℤ k)) (get_or-set_same v s y (pos 0) inside) in
    let g = ap (λ (k : ℤ). a *ℤ k) (d ∙ ap (λ (k : ℤ). k +ℤ (b *ℤ (y -ℤ get_or v s (pos 0)))) (sym at)) in
    let h = ap (λ (k : ℤ). b *ℤ k) (e ∙ ap (λ (k : ℤ). k +ℤ (a *ℤ (y -ℤ get_or v s (pos 0)))) (sym here)) in
    let i = mul_distrib_left (row.denominator *ℤ x) (b *ℤ (y -ℤ get_or v s (pos 0))) a in
    let j = mul_distrib_left (pivot.denominator *ℤ y) (a *ℤ (y -ℤ get_or v s (pos 0))) b in
    let k = left_comm a b (y -ℤ get_or v s (pos 0)) in
    let l = mul_assoc_int row.denominator a x in
    let m = left_comm a row.denominator x in
    omega (arith, ints)

-- a combined row gives at v what the row gives at the point before
pub dot-before : (s : ℕ) (pivot row : Row) (v : List ℤ) → length row.entries ≡ length pivot.entries
    → s < length pivot.entries → s < length v
    → dot row.entries (before s pivot v) ≡ dot (combined s pivot row).entries v
dot-before s pivot row v same within inside =
    let a = entry pivot s in
    let b = entry row s in
    let t = get_or v s (pos 0) in
    let z = ((pivot.denominator *ℤ t) -ℤ dot pivot.entries v) +ℤ (a *ℤ t) in
    let c = dot-combined s pivot row v same within in
    let d = dot-set row.entries (multiples a v) s z (omega (arith, length-multiples a v)) in
    let e = dot-multiples_right a row.entries v in
    let f = get_or-multiples a v s in
    let g : z -ℤ get_or (multiples a v) s (pos 0) ≡ (pivot.denominator *ℤ t) -ℤ dot pivot.entries v = omega
    (arith, ints) in
    let h = ap (λ (k : ℤ). b *ℤ k) g in
    let i = mul_sub_left (pivot.denominator *ℤ t) (dot pivot.entries v) b in
    omega (arith, ints)

-- the values stay, with the pivot row's in place of the column's
pub pivot_means : (m s : ℕ) (pivot : Row) (rows news : List Row) (v xs : List ℤ) (y : ℤ) → Pivoted s pivot rows news
    → Sized m rows
    → length pivot.entries ≡ m → s < m → s < length v → At pivot v y → Means rows v xs → Means news (set v s y) xs
pivot_means m s pivot rows news v [] y p sizes same within inside here means = tt
pivot_means m s pivot [] news v (x ∷ xs) y p sizes same within inside here means = absurd means
pivot_means m s pivot (row ∷ rows) [] v (x ∷ xs) y p sizes same within inside here means = absurd p
pivot_means m s pivot (row ∷ rows) (new ∷ news) v (x ∷ xs) y p sizes same within inside here means = (
  lowered_at (combined s pivot row) new (set v s y) x p.0
      (combined_at s pivot row v x y (sizes.1 ∙ sym same) (omega arith) inside here means.0),
  pivot_means m s pivot rows news v xs y p.1 sizes.2 same within inside here means.1,
)

-- rows behind a pivot give at v what the rows give at the point before, over the entry in the column
pub back_means : (m s : ℕ) (pivot : Row) (rows news : List Row) (v xs : List ℤ) → Pivoted s pivot rows news
    → Sized m rows
    → length pivot.entries ≡ m → s < m → s < length v → Means news v xs
    → Means rows (before s pivot v) (multiples (entry pivot s) xs)
back_means m s pivot rows news v [] p sizes same within inside means = tt
back_means m s pivot rows [] v (x ∷ xs) p sizes same within inside means = absurd means
back_means m s pivot [] (new ∷ news) v (x ∷ xs) p sizes same within inside means = absurd p
back_means m s pivot (row ∷ rows) (new ∷ news) v (x ∷ xs) p sizes same within inside means =
    let a = raised_at (combined s pivot row) new v x p.0 means.0 in
    let b = dot-before s pivot row v (sizes.1 ∙ sym same) (omega arith) inside in
    let c = mul_assoc_int row.denominator (entry pivot s) x in (
      omega (arith, ints),
      back_means m s pivot rows news v xs p.1 sizes.2 same within inside means.1,
    )

pub forth_means : (m s : ℕ) (pivot : Row) (rows news : List Row) (v point : List ℤ) (givens : List (List ℤ))
    → Pivoted s pivot rows news → Sized m rows
    → length pivot.entries ≡ m → s < m → s < length v
    → Means rows (before s pivot v) (values givens (multiples (entry pivot s) point))
    → Means news v (values givens point)
forth_means m s pivot rows news v point [] p sizes same within inside means = tt
forth_means m s pivot [] news v point (g ∷ gs) p sizes same within inside means = absurd means
forth_means m s pivot (row ∷ rows) [] v point (g ∷ gs) p sizes same within inside means = absurd p
forth_means m s pivot (row ∷ rows) (new ∷ news) v point (g ∷ gs) p sizes same within inside means =
    let a = dot-before s pivot row v (sizes.1 ∙ sym same) (omega arith) inside in
    let b = ap (λ (k : ℤ). row.denominator *ℤ k) (dot-multiples_right (entry pivot s) g point) in
    let c = mul_assoc_int row.denominator (entry pivot s) (dot g point) in
    let at = means.0 in (
      lowered_at (combined s pivot row) new v (dot g point) p.0 (omega (arith, ints)),
      forth_means m s pivot rows news v point gs p.1 sizes.2 same within inside means.1,
    )

pub drop_pivoted : (n s : ℕ) (pivot : Row) (rows news : List Row) → Pivoted s pivot rows news
    → Pivoted s pivot (drop n rows) (drop n news)
drop_pivoted zero s pivot rows news p = p
drop_pivoted (suc n) s pivot [] [] p = p
drop_pivoted (suc n) s pivot [] (new ∷ news) p = absurd p
drop_pivoted (suc n) s pivot (row ∷ rows) [] p = absurd p
drop_pivoted (suc n) s pivot (row ∷ rows) (new ∷ news) p = drop_pivoted n s pivot rows news p.1

pub drop_sized : (n m : ℕ) (rows : List Row) → Sized m rows → Sized m (drop n rows)
drop_sized zero m rows h = h
drop_sized (suc n) m [] h = h
drop_sized (suc n) m (row ∷ rows) h = drop_sized n m rows h.2

-- a pivot keeps rows faithful
pub pivot_faithful : (n m s : ℕ) (pivot : Row) (rows news : List Row) (givens : List (List ℤ))
    → Pivoted s pivot rows news → Sized m rows
    → length pivot.entries ≡ m → s < n → n < m → Faithful n givens rows → Faithful n givens news
pivot_faithful n m s pivot rows news givens p sizes same within more faithful v xs long size means =
    let a = entry pivot s in
    let inside : s < length v = omega arith in
    let back = back_means m s pivot rows news v xs p sizes same (omega arith) inside means in
    let size_before : n < length (before s pivot v) = simp length-set (omega (arith, length-multiples a v)) in
    let f = faithful (before s pivot v) (multiples a xs) size_before (length-multiples a xs ∙ size) back in
    let e : multiples a xs ++ drop n (before s pivot v) ≡ multiples a (xs ++ drop n v) =
    rw (
      drop-set-lt n (multiples a v) s
          (((pivot.denominator *ℤ get_or v s (pos 0)) -ℤ dot pivot.entries v) +ℤ (a *ℤ get_or v s (pos 0))) within,
      drop-multiples n a v,
    ) (sym (multiples-append a xs (drop n v))) in
    let g = subst (λ (zs : List ℤ). Means (drop n rows) (before s pivot v) (values givens zs)) e f in
    forth_means m s pivot (drop n rows) (drop n news) v (xs ++ drop n v) givens (drop_pivoted n s pivot rows news p)
    (drop_sized n m rows sizes) same (omega arith) inside g
