-- A schedule has as many rows as any statement has loops, and no number of a row is negative.
use Rattle.scop_syntax.proofs.Common.{◌≡◌, ◌∙◌, ap, ap₂, sym, refl, subst, ℕ, zero, suc, ◌+◌, ◌<◌, ◌≤◌, Bool, true}
use Rattle.scop_syntax.proofs.Common.{false, ℤ, List, [], ◌∷◌, ◌++◌, length, map, All, arith, nat_le, append-nil, inl}
use Rattle.scop_syntax.proofs.Common.{inr, ◌&&◌, if◌then◌else◌, slice_index_or, list_all, length-map, All-nil, All-cons}
use Rattle.scop_syntax.proofs.Common.{All-append, dot}
use Rattle.fractions.specs.Farkas.{AreNotNegative}
use Rattle.iteration_domains.specs.Dependence.{Dependence}
use Rattle.null_space.specs.Narrowing.{against, is_zero, kernel_vectors, narrowed_all, narrowed_by, units_from}
use Rattle.schedule_rows.specs.Items.{Row, Block, band_rows, closed_by, numbers_of, part_of, rows_in}
use Rattle.schedule_rows.specs.Posed.{IsFull, coefficients_in, loops_of}
use Rattle.schedule_rows.specs.Next.{State, rows_of}
use Rattle.schedule_rows.specs.steps.Moves.{Ends, Goes}
use Rattle.schedule_rows.specs.Outcomes.{IsSchedule, Runs}
use Rattle.schedule_rows.proofs.Measures.{rows_appended, rows_closed, rows_scalar}
use Rattle.schedule_rows.proofs.NextSteps.{next_ends, next_goes}
use Rattle.schedule_rows.proofs.Times.{runs_full}

-- a row takes one kernel vector at most
narrowed_most : (c : List ℤ) (ns : List (List ℤ)) → length ns ≤ suc (length (narrowed_by c ns))
narrowed_most c [] = omega arith
narrowed_most c (n ∷ ns) = by_test (is_zero (dot n c)) (narrowed_most c ns)
  where
    by_test : (t : Bool) → length ns ≤ suc (length (narrowed_by c ns))
        → length (n ∷ ns) ≤ suc (length (if t then n ∷ narrowed_by c ns else map (against c n) ns))
    by_test true h = omega arith
    by_test false h = let k = length-map ns (against c n) in omega arith

all_most : (cs ns : List (List ℤ)) → length ns ≤ length cs + length (narrowed_all cs ns)
all_most [] ns = omega arith
all_most (c ∷ cs) ns =
    let here = narrowed_most c ns in
    let rest = all_most cs (narrowed_by c ns) in
    omega arith

length-units : (n i k : ℕ) → length (units_from n i k) ≡ k
length-units n i zero = refl
length-units n i (suc k) = ap suc (length-units n (i + 1) k)

rows_enough : (n : ℕ) (rows : List (List ℤ)) → kernel_vectors n rows ≡ [] → n ≤ length rows
rows_enough n rows none =
    let most = all_most rows (units_from n 0 n) in
    let units = length-units n 0 n in
    let left = ap length none in
    omega arith

le_true : (a b : ℕ) → a ≤ b → nat_le a b ≡ true
le_true a b h = grind arith

each_less : (k : ℕ) (loops : List ℕ) → ((s : ℕ) → s < length loops → slice_index_or loops s 0 ≤ k)
    → list_all (λ n. nat_le n k) loops ≡ true
each_less k [] h = refl
each_less k (n ∷ loops) h =
    ap₂ (λ (a b : Bool). a && b) (le_true n k (h 0 (omega arith)))
    (each_less k loops (λ s less. h (suc s) (omega arith)))

full_enough : (loops : List ℕ) (rows : List Row) → IsFull loops rows
    → list_all (λ n. nat_le n (length rows)) loops ≡ true
full_enough loops rows full =
    each_less (length rows) loops (λ s less.
    let most = rows_enough (loops_of loops s) (coefficients_in rows s) (full s less) in
    let count = length-map rows (λ r. (part_of r s).coefficients) in
    omega arith)

-- no statement has fewer rows than loops
pub schedule_enough : (m : ℕ) (loops : List ℕ) (deps : List Dependence) (blocks : List Block)
    → IsSchedule m loops deps blocks → list_all (λ n. nat_le n (length (rows_in blocks))) loops ≡ true
schedule_enough m loops deps blocks s =
    full_enough loops (rows_in blocks)
    (runs_full m loops (record { closed = []; rows = []; remaining = s.taken }) s.states blocks s.runs)

-- no number of a row is negative
abbrev pub IsUpRow : Row → Type 0
IsUpRow r = AreNotNegative (numbers_of r)

up_as : (rows others : List Row) → rows ≡ others → All IsUpRow others → All IsUpRow rows
up_as rows others e h = subst (All IsUpRow) (sym e) h

up_goes : (m : ℕ) (loops : List ℕ) (s t : State) → All IsUpRow (rows_of s) → Goes m loops s t → All IsUpRow (rows_of t)
up_goes m loops s t h (inl a) =
    up_as (rows_of t) (rows_of s ++ a.row.row ∷ []) (rows_appended s t a.row a.closed a.rows)
    (All-append IsUpRow (rows_of s) (a.row.row ∷ []) h
    (All-cons IsUpRow a.row.row [] a.least.posed.not_negative (All-nil IsUpRow)))
up_goes m loops s t h (inr (inl c)) =
    up_as (rows_of t) (rows_of s)
    (ap₂ (λ (x : List Row) (y : List Row). x ++ y) (ap rows_in c.closed ∙ rows_closed s.closed s.rows)
    (ap band_rows c.rows) ∙ append-nil (rows_of s)) h
up_goes m loops s t h (inr (inr c)) =
    up_as (rows_of t) (rows_of s)
    (ap₂ (λ (x : List Row) (y : List Row). x ++ y) (ap rows_in c.closed ∙ rows_scalar s.closed c.numbers)
    (ap band_rows (c.rows ∙ sym c.empty))) h

up_ends : (m : ℕ) (loops : List ℕ) (s : State) (blocks : List Block) → All IsUpRow (rows_of s) → Ends m loops s blocks
    → All IsUpRow (rows_in blocks)
up_ends m loops s blocks h (inl e) =
    up_as (rows_in blocks) (rows_of s) (ap rows_in e.blocks_are ∙ rows_closed s.closed s.rows) h
up_ends m loops s blocks h (inr e) =
    up_as (rows_in blocks) (rows_of s)
    (ap rows_in e.blocks_are ∙ (rows_scalar (closed_by s.closed s.rows) e.numbers ∙ rows_closed s.closed s.rows)) h

up_run : (m : ℕ) (loops : List ℕ) (s : State) (ts : List State) (blocks : List Block) → All IsUpRow (rows_of s)
    → Runs m loops s ts blocks → All IsUpRow (rows_in blocks)
up_run m loops s [] blocks h r = up_ends m loops s blocks h (next_ends m loops s blocks r)
up_run m loops s (t ∷ ts) blocks h r =
    up_run m loops t ts blocks (up_goes m loops s t h (next_goes m loops s t r.0)) r.1

pub schedule_up : (m : ℕ) (loops : List ℕ) (deps : List Dependence) (blocks : List Block)
    → IsSchedule m loops deps blocks → All IsUpRow (rows_in blocks)
schedule_up m loops deps blocks s =
    up_run m loops (record { closed = []; rows = []; remaining = s.taken }) s.states blocks (All-nil IsUpRow) s.runs
