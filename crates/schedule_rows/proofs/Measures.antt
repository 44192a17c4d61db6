-- Each step makes the measure less, so a run ends.
use Rattle.scop_syntax.proofs.Common.{◌≡◌, ℕ, zero, suc, ◌<◌, ℤ, pos, List, [], ◌∷◌, ◌++◌, refl, sym, ◌∙◌, ap, ap₂}
use Rattle.scop_syntax.proofs.Common.{subst, ◌⊎◌, inl, inr, arith, length, ◌≤◌, ints, le_or_lt}
use Rattle.schedule_rows.specs.Items.{Row, Marked, Block, scalar, band, band_rows, rows_in, part_of}
use Rattle.schedule_rows.specs.Items.{closed_by}
use Rattle.iteration_domains.specs.Dependence.{Dependence}
use Rattle.null_space.specs.Narrowing.{narrowed_by, kernel_vectors, Grows}
use Rattle.schedule_rows.specs.Posed.{coefficients_in, vectors_of, IsFull, loops_of}
use Rattle.schedule_rows.specs.Next.{State, rows_of, Restricts}
use Rattle.schedule_rows.specs.steps.Moves.{Goes}
use Rattle.schedule_rows.proofs.NextSteps.{next_goes}
use Rattle.schedule_rows.specs.Outcomes.{Runs}
use Rattle.schedule_rows.specs.Measure.{sum_below, missing, is_open, measure}

-- the laws of kernel vectors: a row adds none, one that grows the rank takes one, and one more row narrows them
pub record VectorLaws : Type 0 where
  pub most : (c : List ℤ) (ns : List (List ℤ)) → length (narrowed_by c ns) ≤ length ns
  pub grows : (c : List ℤ) (ns : List (List ℤ)) → Grows c ns → suc (length (narrowed_by c ns)) ≡ length ns
  pub more : (n : ℕ) (rows : List (List ℤ)) (row : List ℤ)
      → kernel_vectors n (rows ++ row ∷ []) ≡ narrowed_by row (kernel_vectors n rows)

append_assoc : {A : Type 0} (xs ys zs : List A) → (xs ++ ys) ++ zs ≡ xs ++ (ys ++ zs)
append_assoc [] ys zs = refl
append_assoc (x ∷ xs) ys zs = ap (λ l. x ∷ l) (append_assoc xs ys zs)

append_nil : {A : Type 0} (xs : List A) → xs ++ [] ≡ xs
append_nil [] = refl
append_nil (x ∷ xs) = ap (λ l. x ∷ l) (append_nil xs)

pub coefficients_append : (rows more : List Row) (s : ℕ)
    → coefficients_in (rows ++ more) s ≡ coefficients_in rows s ++ coefficients_in more s
coefficients_append [] more s = refl
coefficients_append (r ∷ rows) more s =
    ap (λ l. (part_of r s).coefficients ∷ l) (coefficients_append rows more s)

-- one row more: the vectors are narrowed by its coefficients
pub vectors_more : VectorLaws → (loops : List ℕ) (rows : List Row) (r : Row) (s : ℕ)
    → vectors_of loops (rows ++ r ∷ []) s ≡ narrowed_by (part_of r s).coefficients (vectors_of loops rows s)
vectors_more laws loops rows r s =
    ap (kernel_vectors (loops_of loops s)) (coefficients_append rows (r ∷ []) s)
    ∙ laws.more (loops_of loops s) (coefficients_in rows s) (part_of r s).coefficients

below : (k : ℕ) (f : ℕ → ℕ) → f k ≡ 0 → ((s : ℕ) → s < k → f s ≡ 0) → (s : ℕ) → s < suc k → f s ≡ 0
below k f z h s l = elim (le_or_lt (pos k) (pos s)) [
  | inl q ↦ let e : s ≡ k = omega (arith, ints) in ap f e ∙ z
  | inr q ↦ h s (omega (arith, ints))
]

sums_fall : (k : ℕ) (f g : ℕ → ℕ) → ((s : ℕ) → s < k → (f s ≡ 0) ⊎ (suc (g s) ≡ f s)) → ((s : ℕ) → g s ≤ f s)
    → (sum_below k g < sum_below k f) ⊎ ((sum_below k g ≤ sum_below k f) × ((s : ℕ) → s < k → f s ≡ 0))
sums_fall zero f g h le = inr (omega arith, λ s l. absurd (omega arith))
sums_fall (suc k) f g h le = elim (sums_fall k f g (λ s l. h s (omega arith)) le) [
  | inl u ↦ let q = le k in inl (omega arith)
  | inr e ↦ elim (h k (omega arith)) [
    | inl z ↦ let q = le k in let a = e.0 in inr (omega arith, below k f z e.1)
    | inr z ↦ let a = e.0 in inl (omega arith)
  ]
]

no_vectors : (l : List (List ℤ)) → length l ≡ 0 → l ≡ []
no_vectors [] h = refl
no_vectors (x ∷ l) h = absurd (omega (arith, h))

-- a row that grows the rank of each statement below full rank, where there is one
pub missing_falls : VectorLaws → (loops : List ℕ) (rows : List Row) (r : Row) → (IsFull loops rows → ⊥)
    → ((s : ℕ) → s < length loops → (vectors_of loops rows s ≡ []) ⊎ Grows (part_of r s).coefficients
    (vectors_of loops rows s))
    → missing loops (rows ++ r ∷ []) < missing loops rows
missing_falls laws loops rows r more grows =
    let fall = sums_fall (length loops) (λ s. length (vectors_of loops rows s))
    (λ s. length (vectors_of loops (rows ++ r ∷ []) s))
    (λ s l. elim (grows s l) [
      | inl e ↦ inl (ap length e)
      | inr g ↦ inr (ap (λ v. suc (length v)) (vectors_more laws loops rows r s)
          ∙ laws.grows (part_of r s).coefficients (vectors_of loops rows s) g)
    ])
    (λ s. subst (λ (v : List (List ℤ)). length v ≤ length (vectors_of loops rows s))
    (sym (vectors_more laws loops rows r s))
    (laws.most (part_of r s).coefficients (vectors_of loops rows s))) in
    elim fall [
      | inl u ↦ u
      | inr e ↦ absurd (more (λ s l. no_vectors (vectors_of loops rows s) (e.1 s l)))
    ]

rows_append : (bs cs : List Block) → rows_in (bs ++ cs) ≡ rows_in bs ++ rows_in cs
rows_append [] cs = refl
rows_append (scalar numbers ∷ bs) cs = rows_append bs cs
rows_append (band ms ∷ bs) cs =
    ap (λ l. band_rows ms ++ l) (rows_append bs cs)
    ∙ sym (append_assoc (band_rows ms) (rows_in bs) (rows_in cs))

pub rows_closed : (bs : List Block) (ms : List Marked)
    → rows_in (closed_by bs ms) ≡ rows_in bs ++ band_rows ms
rows_closed bs [] = sym (append_nil (rows_in bs))
rows_closed bs (m ∷ ms) =
    rows_append bs (band (m ∷ ms) ∷ []) ∙ ap (λ l. rows_in bs ++ l) (append_nil (band_rows (m ∷ ms)))

pub rows_scalar : (bs : List Block) (numbers : List ℕ) → rows_in (bs ++ scalar numbers ∷ []) ≡ rows_in bs
rows_scalar bs numbers = rows_append bs (scalar numbers ∷ []) ∙ append_nil (rows_in bs)

band_rows_more : (ms : List Marked) (m : Marked) → band_rows (ms ++ m ∷ []) ≡ band_rows ms ++ m.row ∷ []
band_rows_more [] m = refl
band_rows_more (n ∷ ms) m = ap (λ l. n.row ∷ l) (band_rows_more ms m)

pub restricts_length : (m : ℕ) (ms : List Marked) (ds kept : List Dependence) → Restricts m ms ds kept
    → length kept ≤ length ds
restricts_length m ms [] kept h = let e = ap length h in omega arith
restricts_length m ms (d ∷ ds) kept (inl h) = let k = restricts_length m ms ds kept h.1 in omega arith
restricts_length m ms (d ∷ ds) kept (inr h) =
    let k = restricts_length m ms ds h.0 h.2 in let e = ap length h.3 in omega arith

is_open_most : (ms : List Marked) → is_open ms ≤ 1
is_open_most [] = omega arith
is_open_most (m ∷ ms) = omega arith

is_open_some : (ms : List Marked) → (ms ≡ [] → ⊥) → is_open ms ≡ 1
is_open_some [] h = absurd (h refl)
is_open_some (m ∷ ms) h = refl

-- the rows of the states, step by step
pub rows_appended : (s t : State) (r : Marked) → t.closed ≡ s.closed → t.rows ≡ s.rows ++ r ∷ []
    → rows_of t ≡ rows_of s ++ r.row ∷ []
rows_appended s t r a b =
    ap₂ (λ (x : List Row) (y : List Row). x ++ y) (ap rows_in a) (ap band_rows b ∙ band_rows_more s.rows r)
    ∙ sym (append_assoc (rows_in s.closed) (band_rows s.rows) (r.row ∷ []))

pub step_falls : VectorLaws → (m : ℕ) (loops : List ℕ) (s t : State) → Goes m loops s t
    → measure loops t < measure loops s
step_falls laws m loops s t (inl a) =
    let e = ap (missing loops) (rows_appended s t a.row a.closed a.rows) in
    let f = missing_falls laws loops (rows_of s) a.row.row a.more a.least.posed.grows in
    let l = ap length a.remaining in
    let o = is_open_most t.rows in
    omega arith
step_falls laws m loops s t (inr (inl c)) =
    let e = ap (missing loops)
    (ap₂ (λ (x : List Row) (y : List Row). x ++ y) (ap rows_in c.closed ∙ rows_closed s.closed s.rows)
    (ap band_rows c.rows) ∙ append_nil (rows_of s)) in
    let l = restricts_length m s.rows s.remaining t.remaining c.remaining in
    let o = is_open_some s.rows c.some in
    let p = ap is_open c.rows in
    omega arith
step_falls laws m loops s t (inr (inr c)) =
    let e = ap (missing loops)
    (ap₂ (λ (x : List Row) (y : List Row). x ++ y) (ap rows_in c.closed ∙ rows_scalar s.closed c.numbers)
    (ap band_rows (c.rows ∙ sym c.empty))) in
    let l = c.fewer in
    let o = ap is_open c.rows in
    omega arith

-- so a run has no more steps than the measure
pub run_length : VectorLaws → (m : ℕ) (loops : List ℕ) (s : State) (ts : List State) (blocks : List Block)
    → Runs m loops s ts blocks → length ts ≤ measure loops s
run_length laws m loops s [] blocks h = omega arith
run_length laws m loops s (t ∷ ts) blocks h =
    let f = step_falls laws m loops s t (next_goes m loops s t h.0) in
    let k = run_length laws m loops t ts blocks h.1 in
    omega arith
