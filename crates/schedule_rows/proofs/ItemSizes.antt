-- The items of a schedule have a number for each statement, and small ones.
use Rattle.scop_syntax.proofs.Common.{◌≡◌, ℕ, zero, suc, ℤ, pos, List, [], ◌∷◌, ◌++◌, sym, subst, inl, inr, arith, ◌≤ℤ◌}
use Rattle.scop_syntax.proofs.Common.{All, reverse, slice_index_or, flat_map, ints, reverse-append, All-nil, All-cons}
use Rattle.scop_syntax.proofs.Common.{All-head, All-tail, all_front, all_back}
use Rattle.fractions.specs.Farkas.{AreNotNegative}
use Rattle.farkas.specs.Unknowns.{Part, part_numbers}
use Rattle.iteration_domains.specs.Dependence.{Dependence}
use Rattle.schedule_rows.specs.Items.{Row, Marked, Block, scalar, band, closed_by}
use Rattle.schedule_rows.specs.Sized.{IsSmall, IsSizedRow, AreSizedRows, IsSizedBlock, AreSized}
use Rattle.schedule_rows.specs.Posed.{IsPosed}
use Rattle.schedule_rows.specs.Next.{State, IsWithin}
use Rattle.schedule_rows.specs.steps.Moves.{Goes, Ends}
use Rattle.schedule_rows.specs.Outcomes.{Runs, IsSchedule}
use Rattle.schedule_rows.proofs.NextSteps.{next_goes, next_ends}

-- what holds of a list turned round holds of the list
all_turned : (P : ℤ → Type 0) (xs : List ℤ) → All P (reverse xs) → All P xs
all_turned P [] h = All-nil P
all_turned P (x ∷ xs) h =
    let turned = subst (All P) (reverse-append (x ∷ []) xs) h in
    All-cons P x xs (All-head P x [] (all_back P (reverse xs) (x ∷ []) turned))
    (all_turned P xs (all_front P (reverse xs) (x ∷ []) turned))

-- both bounds of each number
both : (xs : List ℤ) → All (λ c. pos 0 ≤ℤ c) xs → All (λ c. c ≤ℤ pos 4096) xs → All IsSmall xs
both [] h k = All-nil IsSmall
both (x ∷ xs) h k =
    All-cons IsSmall x xs (All-head (λ c. pos 0 ≤ℤ c) x xs h, All-head (λ c. c ≤ℤ pos 4096) x xs k)
    (both xs (All-tail (λ c. pos 0 ≤ℤ c) x xs h) (All-tail (λ c. c ≤ℤ pos 4096) x xs k))

abbrev HasSmall : Part → Type 0
HasSmall p = All IsSmall p.coefficients × IsSmall p.shift

abbrev IsWithinPart : Part → Type 0
IsWithinPart p = All (λ c. c ≤ℤ pos 4096) p.coefficients × (p.shift ≤ℤ pos 4096)

part_small : (p : Part) → AreNotNegative (part_numbers p) → IsWithinPart p → HasSmall p
part_small p h k =
    let front = all_front (λ c. pos 0 ≤ℤ c) (reverse p.coefficients) (p.shift ∷ []) h in
    let last = All-head (λ c. pos 0 ≤ℤ c) p.shift []
    (all_back (λ c. pos 0 ≤ℤ c) (reverse p.coefficients) (p.shift ∷ []) h) in
    (both p.coefficients (all_turned (λ c. pos 0 ≤ℤ c) p.coefficients front) k.0, (last, k.1))

-- statement s's part, an empty one where there is none
parts_small : (ps : List Part) (s : ℕ) → AreNotNegative (flat_map part_numbers ps) → All IsWithinPart ps
    → HasSmall (slice_index_or ps s (record { coefficients = []; shift = pos 0 }))
parts_small [] s h k = (All-nil IsSmall, (omega (arith, ints), omega (arith, ints)))
parts_small (p ∷ ps) zero h k =
    part_small p (all_front (λ c. pos 0 ≤ℤ c) (part_numbers p) (flat_map part_numbers ps) h)
    (All-head IsWithinPart p ps k)
parts_small (p ∷ ps) (suc s) h k =
    parts_small ps s (all_back (λ c. pos 0 ≤ℤ c) (part_numbers p) (flat_map part_numbers ps) h)
    (All-tail IsWithinPart p ps k)

-- a posed row within its bounds
row_sized : (m : ℕ) (loops : List ℕ) (deps : List Dependence) (before : List Row) (r : Row)
    → IsPosed m loops deps before r → IsWithin r → IsSizedRow loops r
row_sized m loops deps before r p w =
    let behind = All-tail (λ c. pos 0 ≤ℤ c) r.w (flat_map part_numbers r.parts)
    (all_back (λ c. pos 0 ≤ℤ c) r.u (r.w ∷ flat_map part_numbers r.parts) p.not_negative) in
    record {
      statements = p.statements;
      sized = p.sized;
      coefficients = λ s. (parts_small r.parts s behind w).0;
      shift = λ s. (parts_small r.parts s behind w).1;
    }

rows_more : (loops : List ℕ) (ms : List Marked) (m : Marked) → AreSizedRows loops ms → IsSizedRow loops m.row
    → AreSizedRows loops (ms ++ m ∷ [])
rows_more loops [] m h k = (k, tt)
rows_more loops (n ∷ ms) m h k = (h.0, rows_more loops ms m h.1 k)

blocks_more : (loops : List ℕ) (bs : List Block) (b : Block) → AreSized loops bs → IsSizedBlock loops b
    → AreSized loops (bs ++ b ∷ [])
blocks_more loops [] b h k = (k, tt)
blocks_more loops (c ∷ bs) b h k = (h.0, blocks_more loops bs b h.1 k)

-- an open band is closed
closed_sized : (loops : List ℕ) (bs : List Block) (ms : List Marked) → AreSized loops bs → AreSizedRows loops ms
    → AreSized loops (closed_by bs ms)
closed_sized loops bs [] h k = h
closed_sized loops bs (m ∷ ms) h k = blocks_more loops bs (band (m ∷ ms)) h k

abbrev StateSized : List ℕ → State → Type 0
StateSized loops s = AreSized loops s.closed × AreSizedRows loops s.rows

state_from : (loops : List ℕ) (t : State) (closed : List Block) (rows : List Marked) → t.closed ≡ closed
    → t.rows ≡ rows → AreSized loops closed → AreSizedRows loops rows → StateSized loops t
state_from loops t closed rows e f h k =
    (subst (AreSized loops) (sym e) h, subst (AreSizedRows loops) (sym f) k)

sized_goes : (m : ℕ) (loops : List ℕ) (s t : State) → StateSized loops s → Goes m loops s t → StateSized loops t
sized_goes m loops s t h (inl a) =
    state_from loops t s.closed (s.rows ++ a.row ∷ []) a.closed a.rows h.0
    (rows_more loops s.rows a.row h.1 (row_sized m loops s.remaining _ a.row.row a.least.posed a.within))
sized_goes m loops s t h (inr (inl c)) =
    state_from loops t (closed_by s.closed s.rows) [] c.closed c.rows (closed_sized loops s.closed s.rows h.0 h.1) tt
sized_goes m loops s t h (inr (inr c)) =
    state_from loops t (s.closed ++ scalar c.numbers ∷ []) [] c.closed c.rows
    (blocks_more loops s.closed (scalar c.numbers) h.0 c.numbering.size) tt

sized_ends : (m : ℕ) (loops : List ℕ) (s : State) (blocks : List Block) → StateSized loops s
    → Ends m loops s blocks → AreSized loops blocks
sized_ends m loops s blocks h (inl e) =
    subst (AreSized loops) (sym e.blocks_are) (closed_sized loops s.closed s.rows h.0 h.1)
sized_ends m loops s blocks h (inr e) =
    subst (AreSized loops) (sym e.blocks_are)
    (blocks_more loops (closed_by s.closed s.rows) (scalar e.numbers) (closed_sized loops s.closed s.rows h.0 h.1)
    e.numbering.size)

sized_run : (m : ℕ) (loops : List ℕ) (s : State) (ts : List State) (blocks : List Block) → StateSized loops s
    → Runs m loops s ts blocks → AreSized loops blocks
sized_run m loops s [] blocks h r = sized_ends m loops s blocks h (next_ends m loops s blocks r)
sized_run m loops s (t ∷ ts) blocks h r =
    sized_run m loops t ts blocks (sized_goes m loops s t h (next_goes m loops s t r.0)) r.1

-- the items of the determined run
pub schedule_sized : (m : ℕ) (loops : List ℕ) (deps : List Dependence) (blocks : List Block)
    → IsSchedule m loops deps blocks → AreSized loops blocks
schedule_sized m loops deps blocks s =
    sized_run m loops (record { closed = []; rows = []; remaining = s.taken }) s.states blocks (tt, tt) s.runs
