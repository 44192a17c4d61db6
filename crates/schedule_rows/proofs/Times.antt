-- At full rank the item values of one statement's instances differ: item values, then the statement's number,
-- are in order.
use Rattle.scop_syntax.proofs.Common.{◌≡◌, ℕ, ◌<◌, ℤ, pos, negsuc, List, [], ◌∷◌, ◌++◌, sym, ◌∙◌, ap, subst, inl, inr}
use Rattle.scop_syntax.proofs.Common.{arith, length, All, ◌+ℤ◌, ◌-ℤ◌, ints, All-nil, All-cons, All-append, All-head}
use Rattle.scop_syntax.proofs.Common.{All-tail, dot, sums, multiples, LexLess, LexLess-irrefl, LexLess-front, dot-sums}
use Rattle.scop_syntax.proofs.Common.{dot-multiples, dot_comm, length-sums, length-multiples, In, Instance}
use Rattle.whole_numbers.proofs.Lists.{same_products}
use Rattle.stmt_graph.specs.Graph.{number_in}
use Rattle.schedule_rows.specs.Items.{Row, Marked, Block, scalar, band, part_of, phi, values, band_values}
use Rattle.schedule_rows.specs.Items.{band_rows, rows_in, closed_by}
use Rattle.iteration_domains.specs.Dependence.{Dependence}
use Rattle.schedule_rows.specs.Dependences.{Relates}
use Rattle.schedule_rows.specs.Posed.{loops_of, IsFull, coefficients_in}
use Rattle.schedule_rows.specs.Next.{State, IsSizedDep}
use Rattle.schedule_rows.specs.steps.Moves.{Ends}
use Rattle.schedule_rows.specs.Outcomes.{IsSchedule, Runs}
use Rattle.schedule_rows.proofs.BlockOrder.{along_values, length-values, length-band_values}
use Rattle.schedule_rows.proofs.NextSteps.{next_ends}
use Rattle.schedule_rows.proofs.RunInvariants.{schedule_along}
use Rattle.schedule_rows.proofs.Measures.{rows_closed, rows_scalar}
use Rattle.schedule_rows.proofs.Determinism.{same_parts, same_head, same_tail}
use Rattle.null_space.specs.Narrowing.{kernel_vectors}
use Rattle.null_space.specs.Echelon.{IsOrthogonal}

band_equal : (ms : List Marked) (x y : Instance) → band_values ms x ≡ band_values ms y
    → All (λ r. phi r x ≡ phi r y) (band_rows ms)
band_equal [] x y e = All-nil (λ r. phi r x ≡ phi r y)
band_equal (m ∷ ms) x y e =
    All-cons (λ r. phi r x ≡ phi r y) m.row (band_rows ms)
    (same_head (phi m.row x) (phi m.row y) (band_values ms x) (band_values ms y) e)
    (band_equal ms x y (same_tail (phi m.row x) (phi m.row y) (band_values ms x) (band_values ms y) e))

rows_equal : (bs : List Block) (x y : Instance) → values bs x ≡ values bs y
    → All (λ r. phi r x ≡ phi r y) (rows_in bs)
rows_equal [] x y e = All-nil (λ r. phi r x ≡ phi r y)
rows_equal (scalar numbers ∷ bs) x y e =
    rows_equal bs x y
    (same_tail (pos (number_in numbers x.number)) (pos (number_in numbers y.number)) (values bs x)
    (values bs y) e)
rows_equal (band ms ∷ bs) x y e =
    let p = same_parts (band_values ms x) (band_values ms y) (values bs x) (values bs y)
    (length-band_values ms x ∙ sym (length-band_values ms y)) e in
    All-append (λ r. phi r x ≡ phi r y) (band_rows ms) (rows_in bs) (band_equal ms x y p.0)
    (rows_equal bs x y p.1)

difference_of : List ℤ → List ℤ → List ℤ
difference_of xs ys = sums xs (multiples (negsuc 0) ys)

difference_at : (xs ys w : List ℤ) → dot (difference_of xs ys) w ≡ dot xs w -ℤ dot ys w
unfolding difference_of
difference_at xs ys w =
    let a = dot-sums xs (multiples (negsuc 0) ys) w in
    let b = dot-multiples (negsuc 0) ys w in
    omega (arith, ints)

length-difference : (xs ys : List ℤ) → length xs ≡ length ys → length (difference_of xs ys) ≡ length xs
unfolding difference_of
length-difference xs ys h =
    length-sums xs (multiples (negsuc 0) ys) (h ∙ sym (length-multiples (negsuc 0) ys))

orthogonal : (rows : List Row) (x y : Instance) → x.number ≡ y.number → All (λ r. phi r x ≡ phi r y) rows
    → All (λ c. dot (difference_of x.turns y.turns) c ≡ pos 0) (coefficients_in rows x.number)
orthogonal [] x y same h = All-nil (λ c. dot (difference_of x.turns y.turns) c ≡ pos 0)
orthogonal (r ∷ rows) x y same h =
    let c = (part_of r x.number).coefficients in
    let e = All-head (λ q. phi q x ≡ phi q y) r rows h in
    let f : phi r y ≡ dot c y.turns +ℤ (part_of r x.number).shift =
    ap (λ (s : ℕ). dot (part_of r s).coefficients y.turns +ℤ (part_of r s).shift) (sym same) in
    let d = difference_at x.turns y.turns c in
    let a = dot_comm x.turns c in
    let b = dot_comm y.turns c in
    All-cons (λ l. dot (difference_of x.turns y.turns) l ≡ pos 0) c (coefficients_in rows x.number)
    (omega (arith, ints))
    (orthogonal rows x y same (All-tail (λ q. phi q x ≡ phi q y) r rows h))

-- the law of full rank: with no kernel vector left only 0 is orthogonal to all rows
abbrev pub LeavesOnly0 : Type 0
LeavesOnly0 =
    (n : ℕ) (rows : List (List ℤ)) (v : List ℤ) → length v ≡ n → kernel_vectors n rows ≡ []
    → IsOrthogonal rows v → (w : List ℤ) → dot v w ≡ pos 0

-- equal values at full rank: equal turns
pub turns_same : LeavesOnly0 → (loops : List ℕ) (bs : List Block) (x y : Instance) → IsFull loops (rows_in bs)
    → x.number ≡ y.number
    → x.number < length loops → length x.turns ≡ loops_of loops x.number
    → length y.turns ≡ loops_of loops x.number
    → values bs x ≡ values bs y → x.turns ≡ y.turns
turns_same full_rank loops bs x y full same at lx ly e =
    let size = lx ∙ sym ly in
    let o = orthogonal (rows_in bs) x y same (rows_equal bs x y e) in
    same_products x.turns y.turns size (λ w.
    let z = full_rank (loops_of loops x.number) (coefficients_in (rows_in bs) x.number)
    (difference_of x.turns y.turns)
    (length-difference x.turns y.turns size ∙ lx) (full x.number at) o w in
    let d = difference_at x.turns y.turns w in
    omega (arith, ints))

ends_full : (m : ℕ) (loops : List ℕ) (s : State) (blocks : List Block) → Ends m loops s blocks
    → IsFull loops (rows_in blocks)
ends_full m loops s blocks (inl e) =
    subst (λ (l : List Row). IsFull loops l)
    (sym (ap rows_in e.blocks_are ∙ rows_closed s.closed s.rows)) e.full
ends_full m loops s blocks (inr e) =
    subst (λ (l : List Row). IsFull loops l)
    (sym (ap rows_in e.blocks_are
    ∙ (rows_scalar (closed_by s.closed s.rows) e.numbers ∙ rows_closed s.closed s.rows))) e.full

pub runs_full : (m : ℕ) (loops : List ℕ) (s : State) (ts : List State) (blocks : List Block)
    → Runs m loops s ts blocks → IsFull loops (rows_in blocks)
runs_full m loops s [] blocks h = ends_full m loops s blocks (next_ends m loops s blocks h)
runs_full m loops s (t ∷ ts) blocks h = runs_full m loops t ts blocks h.1

-- the time of the one instance comes before that of the other
pub times_rise : LeavesOnly0 → (m : ℕ) (loops : List ℕ) (deps : List Dependence) (blocks : List Block)
    → ((d : Dependence) → In d deps → IsSizedDep loops d) → IsSchedule m loops deps blocks
    → (d : Dependence) (params : List ℤ)
    (x y : Instance) → In d deps → length params ≡ m → Relates params d x y
    → (x.number ≡ y.number → LexLess x.turns y.turns)
    → LexLess (values blocks x ++ pos x.number ∷ []) (values blocks y ++ pos y.number ∷ [])
times_rise full_rank m loops deps blocks sized s d params x y i l r later =
    elim (along_values blocks x y (x.number ≡ y.number)
    (schedule_along m loops deps blocks sized s d params x y i l r)) [
      | inl v ↦ LexLess-front (values blocks x) (values blocks y) (pos x.number ∷ []) (pos y.number ∷ [])
          (length-values blocks x y) v
      | inr e ↦
          let z = sized d i in
          let at = subst (λ (k : ℕ). k < length loops) (sym r.source) z.source in
          let lx = r.source_size ∙ (z.source_turns ∙ ap (loops_of loops) (sym r.source)) in
          let ly = r.target_size ∙ (z.target_turns ∙ ap (loops_of loops) (sym r.target ∙ sym e.1)) in
          let full = runs_full m loops
          (record { closed = []; rows = []; remaining = s.taken }) s.states blocks s.runs in
          let t = turns_same full_rank loops blocks x y full e.1 at lx ly e.0 in
          absurd (LexLess-irrefl x.turns (subst (λ (v : List ℤ). LexLess x.turns v) (sym t) (later e.1)))
    ]
