-- A schedule of statements with at most n loops has at most n rows; each of its scalars parts two statements that
-- dependences have joined.
use Rattle.scop_syntax.proofs.Common.{◌≡◌, ℕ, suc, ◌+◌, ◌<◌, List, [], ◌∷◌, ◌++◌, sym, ◌∙◌, ap, ap₂, subst, ◌⊎◌, inl}
use Rattle.scop_syntax.proofs.Common.{inr, arith, length, ◌≤◌, ⊤, nil_from_length, cases_lt, In}
use Rattle.std.proofs.lemmas.List.{append-nil, length-append}
use Rattle.null_space.specs.Narrowing.{narrowed_by, Grows}
use Rattle.null_space.proofs.Sizes.{units_length}
use Rattle.stmt_graph.specs.Graph.{number_in}
use Rattle.iteration_domains.specs.Dependence.{Dependence}
use Rattle.schedule_rows.specs.Dependences.{edges_of}
use Rattle.schedule_rows.specs.Items.{Row, Marked, Block, scalar, band, part_of, band_rows, rows_in, closed_by}
use Rattle.schedule_rows.specs.Posed.{vectors_of, IsFull, loops_of}
use Rattle.schedule_rows.specs.Next.{State, rows_of, IsSizedDep}
use Rattle.schedule_rows.specs.steps.Moves.{Goes, Ends}
use Rattle.schedule_rows.specs.Outcomes.{Runs, IsSchedule, items_in}
use Rattle.schedule_rows.proofs.Measures.{VectorLaws, vectors_more, rows_closed, rows_scalar, rows_appended}
use Rattle.schedule_rows.proofs.NextSteps.{next_goes, next_ends}
use Rattle.schedule_rows.proofs.RunInvariants.{restricts_sized, uncuts_from}
use Rattle.tile_skew.proofs.JoinedPairs.{joined_pairs, restricted_pairs, cut_pairs}
use Rattle.tile_skew.proofs.Numbers.{numbers_below}

-- as many kernel vectors as loops less rows, or none
abbrev HasRank : List ℕ → List Row → Type 0
HasRank loops rows =
    (s : ℕ) → s < length loops
    → (vectors_of loops rows s ≡ []) ⊎ (length (vectors_of loops rows s) + length rows ≡ loops_of loops s)

rank_first : (loops : List ℕ) → HasRank loops []
rank_first loops s l = let e = units_length (loops_of loops s) 0 (loops_of loops s) in inr (omega arith)

-- a row that grows the rank of each statement below full rank
rank_more : VectorLaws → (loops : List ℕ) (rows : List Row) (r : Row) → HasRank loops rows
    → ((s : ℕ) → s < length loops → (vectors_of loops rows s ≡ []) ⊎ Grows (part_of r s).coefficients
    (vectors_of loops rows s))
    → HasRank loops (rows ++ r ∷ [])
rank_more laws loops rows r rank grows s l =
    let c = (part_of r s).coefficients in
    let e = vectors_more laws loops rows r s in
    elim (rank s l) [
      | inl none ↦ inl (e ∙ ap (narrowed_by c) none)
      | inr some ↦ elim (grows s l) [
        | inl none ↦ inl (e ∙ ap (narrowed_by c) none)
        | inr g ↦
            let one = laws.grows c (vectors_of loops rows s) g in
            let more = length-append rows (r ∷ []) in
            let same = ap length e in
            inr (omega arith)
      ]
    ]

-- below full rank there are fewer rows than loops round some statement
rank_few : (n : ℕ) (loops : List ℕ) (rows : List Row) → ((s : ℕ) → loops_of loops s ≤ n) → HasRank loops rows
    → (IsFull loops rows → ⊥) → length rows < n
rank_few n loops rows most rank more = elim (cases_lt (length rows) n) [
  | inl l ↦ l
  | inr k ↦ absurd (more (λ s l. elim (rank s l) [
    | inl e ↦ e
    | inr e ↦ nil_from_length (vectors_of loops rows s) (let b = most s in omega arith)
  ]))
]

-- the numbers of each scalar are below that of the statements
abbrev pub AreNumbered : ℕ → List Block → Type 0
AreNumbered n [] = ⊤
AreNumbered n (scalar numbers ∷ bs) = ((s : ℕ) → s < n → number_in numbers s < n) × AreNumbered n bs
AreNumbered n (band ms ∷ bs) = AreNumbered n bs

numbered_more : (n : ℕ) (bs : List Block) (numbers : List ℕ) → AreNumbered n bs
    → ((s : ℕ) → s < n → number_in numbers s < n) → AreNumbered n (bs ++ scalar numbers ∷ [])
numbered_more n [] numbers h k = (k, tt)
numbered_more n (scalar own ∷ bs) numbers h k = (h.0, numbered_more n bs numbers h.1 k)
numbered_more n (band ms ∷ bs) numbers h k = numbered_more n bs numbers h k

numbered_closed : (n : ℕ) (bs : List Block) (ms : List Marked) → AreNumbered n bs → AreNumbered n (closed_by bs ms)
numbered_closed n bs [] h = h
numbered_closed n [] (m ∷ ms) h = tt
numbered_closed n (scalar numbers ∷ bs) (m ∷ ms) h = (h.0, numbered_closed n bs (m ∷ ms) h.1)
numbered_closed n (band own ∷ bs) (m ∷ ms) h = numbered_closed n bs (m ∷ ms) h

items_more : (bs cs : List Block) → items_in (bs ++ cs) ≡ items_in bs + items_in cs
items_more [] cs = omega arith
items_more (scalar numbers ∷ bs) cs = let r = items_more bs cs in omega arith
items_more (band ms ∷ bs) cs = let r = items_more bs cs in omega arith

items_closed : (bs : List Block) (ms : List Marked) → items_in (closed_by bs ms) ≡ items_in bs + length ms
items_closed bs [] = omega arith
items_closed bs (m ∷ ms) = let r = items_more bs (band (m ∷ ms) ∷ []) in omega arith

-- a state whose band is closed
closing : (s t : State) (closed : List Block) → t.closed ≡ closed → t.rows ≡ [] → rows_of t ≡ rows_in closed
closing s t closed e f =
    ap₂ (λ (bs : List Block) (ms : List Marked). rows_in bs ++ band_rows ms) e f ∙ append-nil (rows_in closed)

-- a state of a run with statements of at most n loops, of which k pairs were joined at first
record IsRanked (n k : ℕ) (loops : List ℕ) (s : State) : Type 0 where
  pub rank : HasRank loops (rows_of s)
  pub few : length (rows_of s) ≤ n
  pub sized : (d : Dependence) → In d s.remaining → IsSizedDep loops d
  pub items : (items_in s.closed + length s.rows) + joined_pairs (length loops) s.remaining ≤ length (rows_of s) + k
  pub numbers : AreNumbered (length loops) s.closed

ranked_goes : VectorLaws → (n k m : ℕ) (loops : List ℕ) (s t : State) → ((i : ℕ) → loops_of loops i ≤ n)
    → IsRanked n k loops s → Goes m loops s t → IsRanked n k loops t
ranked_goes laws n k m loops s t most h (inl a) =
    let e = rows_appended s t a.row a.closed a.rows in
    let l = ap length e ∙ length-append (rows_of s) (a.row.row ∷ []) in
    let f = rank_few n loops (rows_of s) most h.rank a.more in
    let i = ap items_in a.closed in
    let r = ap length a.rows ∙ length-append s.rows (a.row ∷ []) in
    let d = ap (joined_pairs (length loops)) a.remaining in
    let own = h.items in
    record {
      rank = subst (HasRank loops) (sym e)
          (rank_more laws loops (rows_of s) a.row.row h.rank a.least.posed.grows);
      few = omega arith;
      sized = λ e i. h.sized e (subst (In e) a.remaining i);
      items = omega arith;
      numbers = subst (AreNumbered (length loops)) (sym a.closed) h.numbers;
    }
ranked_goes laws n k m loops s t most h (inr (inl c)) =
    let e = closing s t (closed_by s.closed s.rows) c.closed c.rows ∙ rows_closed s.closed s.rows in
    let l = ap length e in
    let i = ap items_in c.closed ∙ items_closed s.closed s.rows in
    let r = ap length c.rows in
    let d = restricted_pairs (length loops) m s.rows s.remaining t.remaining c.remaining in
    let own = h.items in
    let few = h.few in
    record {
      rank = subst (HasRank loops) (sym e) h.rank;
      few = omega arith;
      sized = restricts_sized m loops s.rows s.remaining t.remaining h.sized c.remaining;
      items = omega arith;
      numbers = subst (AreNumbered (length loops)) (sym c.closed)
          (numbered_closed (length loops) s.closed s.rows h.numbers);
    }
ranked_goes laws n k m loops s t most h (inr (inr c)) =
    let none : rows_in s.closed ≡ rows_of s =
    sym (append-nil (rows_in s.closed)) ∙ ap (λ ms. rows_in s.closed ++ band_rows ms) (sym c.empty) in
    let e = closing s t (s.closed ++ scalar c.numbers ∷ []) c.closed c.rows ∙ (rows_scalar s.closed c.numbers ∙ none) in
    let l = ap length e in
    let i = ap items_in c.closed ∙ items_more s.closed (scalar c.numbers ∷ []) in
    let r = ap length c.rows in
    let d = cut_pairs loops c.numbers s.remaining t.remaining c.remaining c.fewer h.sized in
    let own = h.items in
    let few = h.few in
    record {
      rank = subst (HasRank loops) (sym e) h.rank;
      few = omega arith;
      sized = λ e i. h.sized e (uncuts_from c.numbers s.remaining t.remaining e c.remaining i);
      items = omega arith;
      numbers = subst (AreNumbered (length loops)) (sym c.closed)
          (numbered_more (length loops) s.closed c.numbers h.numbers
          (numbers_below (length loops) (edges_of s.remaining) c.numbers c.numbering));
    }

-- what a schedule of statements with at most n loops is like, of which dependences join k pairs
pub record HasFewItems (n k : ℕ) (loops : List ℕ) (blocks : List Block) : Type 0 where
  pub rows : length (rows_in blocks) ≤ n
  pub items : items_in blocks ≤ suc (n + k)
  pub numbers : AreNumbered (length loops) blocks

ranked_ends : (n k m : ℕ) (loops : List ℕ) (s : State) (blocks : List Block) → IsRanked n k loops s
    → Ends m loops s blocks → HasFewItems n k loops blocks
ranked_ends n k m loops s blocks h (inl e) =
    let l = ap (λ bs. length (rows_in bs)) e.blocks_are ∙ ap length (rows_closed s.closed s.rows) in
    let i = ap items_in e.blocks_are ∙ items_closed s.closed s.rows in
    let own = h.items in
    let few = h.few in
    record {
      rows = omega arith;
      items = omega arith;
      numbers = subst (AreNumbered (length loops)) (sym e.blocks_are)
          (numbered_closed (length loops) s.closed s.rows h.numbers);
    }
ranked_ends n k m loops s blocks h (inr e) =
    let closed = closed_by s.closed s.rows in
    let l = ap (λ bs. length (rows_in bs)) e.blocks_are
    ∙ (ap length (rows_scalar closed e.numbers) ∙ ap length (rows_closed s.closed s.rows)) in
    let i = ap items_in e.blocks_are ∙ items_more closed (scalar e.numbers ∷ []) in
    let j = items_closed s.closed s.rows in
    let own = h.items in
    let few = h.few in
    record {
      rows = omega arith;
      items = omega arith;
      numbers = subst (AreNumbered (length loops)) (sym e.blocks_are)
          (numbered_more (length loops) closed e.numbers
          (numbered_closed (length loops) s.closed s.rows h.numbers)
          (numbers_below (length loops) (edges_of e.left) e.numbers e.numbering));
    }

ranked_run : VectorLaws → (n k m : ℕ) (loops : List ℕ) (s : State) (ts : List State) (blocks : List Block)
    → ((i : ℕ) → loops_of loops i ≤ n) → IsRanked n k loops s → Runs m loops s ts blocks → HasFewItems n k loops blocks
ranked_run laws n k m loops s [] blocks most h r =
    ranked_ends n k m loops s blocks h (next_ends m loops s blocks r)
ranked_run laws n k m loops s (t ∷ ts) blocks most h r =
    ranked_run laws n k m loops t ts blocks most
    (ranked_goes laws n k m loops s t most h (next_goes m loops s t r.0)) r.1

pub schedule_few : VectorLaws → (n k m : ℕ) (loops : List ℕ) (deps : List Dependence) (blocks : List Block)
    → ((i : ℕ) → loops_of loops i ≤ n) → joined_pairs (length loops) deps ≤ k
    → ((d : Dependence) → In d deps → IsSizedDep loops d) → IsSchedule m loops deps blocks → HasFewItems n k loops blocks
schedule_few laws n k m loops deps blocks most joined sized s =
    let first : State = record { closed = []; rows = []; remaining = s.taken } in
    let few = restricted_pairs (length loops) m [] deps s.taken s.takes in
    let ranked : IsRanked n k loops first = record {
      rank = rank_first loops;
      few = omega arith;
      sized = restricts_sized m loops [] deps s.taken sized s.takes;
      items = omega arith;
      numbers = tt;
    } in
    ranked_run laws n k m loops first s.states blocks most ranked s.runs
