-- What the states of a run keep, and what its end says.
use Rattle.scop_syntax.proofs.Common.{◌≡◌, ℕ, ◌<◌, ℤ, List, [], ◌∷◌, ◌++◌, refl, sym, ◌∙◌, ap, subst, ◌⊎◌, inl, inr}
use Rattle.scop_syntax.proofs.Common.{length, ⊤, In, Instance, in_map}
use Rattle.stmt_graph.specs.Graph.{number_in}
use Rattle.schedule_rows.specs.Items.{Row, Marked, Block, scalar, part_of, closed_by}
use Rattle.schedule_rows.specs.Bands.{AreKept, AreEqual, Rises, Along}
use Rattle.iteration_domains.specs.Dependence.{Dependence}
use Rattle.schedule_rows.specs.Dependences.{Relates, Suits, equal_at, edge_of, edges_of}
use Rattle.stmt_graph.specs.Graph.{IsNumbering}
use Rattle.stmt_graph.proofs.Counts.{lt_or_eq}
use Rattle.schedule_rows.specs.Posed.{loops_of}
use Rattle.schedule_rows.specs.Next.{State, restricted, Restricts, Uncuts, IsSizedDep}
use Rattle.schedule_rows.specs.steps.Moves.{Appends, Goes, Ends}
use Rattle.schedule_rows.proofs.NextSteps.{next_goes, next_ends}
use Rattle.schedule_rows.specs.Outcomes.{Runs, IsSchedule}
use Rattle.schedule_rows.proofs.Pairs.{equal_from, legal_kept}
use Rattle.schedule_rows.proofs.BlockOrder.{along_to, along_append, along_closed, rises_or_equal, kept_more}

-- each row has a coefficient for each loop
abbrev pub AreSizedRows : List ℕ → List Marked → Type 0
AreSizedRows loops [] = ⊤
AreSizedRows loops (m ∷ ms) =
    ((s : ℕ) → length (part_of m.row s).coefficients ≡ loops_of loops s) × AreSizedRows loops ms

abbrev pub Left : List Dependence → List ℤ → Instance → Instance → Type 0
Left remaining params x y = (e : Dependence) × In e remaining × Relates params e x y

pub record Holds (m : ℕ) (loops : List ℕ) (deps : List Dependence) (closed : List Block) (rows : List Marked)
    (remaining : List Dependence) : Type 0 where
  pub sized : (d : Dependence) → In d remaining → IsSizedDep loops d
  pub sized_rows : AreSizedRows loops rows
  pub pairs : (d : Dependence) (params : List ℤ) (x y : Instance) → In d deps → length params ≡ m
      → Relates params d x y
      → Along closed x y (Left remaining params x y)
  pub kept : (e : Dependence) (params : List ℤ) (x y : Instance) → In e remaining → length params ≡ m
      → Relates params e x y
      → AreKept rows x y

pub suits : (loops : List ℕ) (d : Dependence) (r : Row) → IsSizedDep loops d
    → ((s : ℕ) → length (part_of r s).coefficients ≡ loops_of loops s) → Suits d r
suits loops d r h k = (k d.source.statement ∙ sym h.source_turns, k d.target.statement ∙ sym h.target_turns)

sized_equal : (loops : List ℕ) (m : ℕ) (r : Row) (d : Dependence) → IsSizedDep loops d
    → IsSizedDep loops (equal_at m r d)
sized_equal loops m r d h =
    record { source = h.source; target = h.target; source_turns = h.source_turns; target_turns = h.target_turns }

pub restricted_from : (m : ℕ) (loops : List ℕ) (ms : List Marked) (d : Dependence) (params : List ℤ)
    (x y : Instance)
    → IsSizedDep loops d → AreSizedRows loops ms → Relates params d x y → AreEqual ms x y → Relates params
    (restricted m ms d) x y
restricted_from m loops [] d params x y h k r e = r
restricted_from m loops (r ∷ ms) d params x y h k re e =
    restricted_from m loops ms (equal_at m r.row d) params x y (sized_equal loops m r.row d h) k.1
    (equal_from m d r.row params x y (suits loops d r.row h k.0) re e.0) e.1

pub sized_restricted : (m : ℕ) (loops : List ℕ) (ms : List Marked) (d : Dependence) → IsSizedDep loops d
    → IsSizedDep loops (restricted m ms d)
sized_restricted m loops [] d h = h
sized_restricted m loops (r ∷ ms) d h =
    sized_restricted m loops ms (equal_at m r.row d) (sized_equal loops m r.row d h)

-- a pair at which all rows are equal stays with what is kept
pub restricts_pair : (m : ℕ) (loops : List ℕ) (ms : List Marked) (ds kept : List Dependence) (d : Dependence)
    (params : List ℤ) (x y : Instance)
    → ((e : Dependence) → In e ds → IsSizedDep loops e) → AreSizedRows loops ms → length params ≡ m
    → Restricts m ms ds kept
    → In d ds → Relates params d x y → AreEqual ms x y → Left kept params x y
restricts_pair m loops ms [] kept d params x y h k size re i r e = absurd i
restricts_pair m loops ms (c ∷ ds) kept d params x y h k size (inl re) (inl i) r e =
    let rc = subst (λ (z : Dependence). Relates params z x y) i r in
    absurd (re.0 params x y size (restricted_from m loops ms c params x y (h c (inl refl)) k rc e))
restricts_pair m loops ms (c ∷ ds) kept d params x y h k size (inl re) (inr i) r e =
    restricts_pair m loops ms ds kept d params x y (λ b j. h b (inr j)) k size re.1 i r e
restricts_pair m loops ms (c ∷ ds) kept d params x y h k size (inr re) (inl i) r e =
    let rc = subst (λ (z : Dependence). Relates params z x y) i r in
    subst (λ (l : List Dependence). Left l params x y) (sym re.3)
    (restricted m ms c, inl refl, restricted_from m loops ms c params x y (h c (inl refl)) k rc e)
restricts_pair m loops ms (c ∷ ds) kept d params x y h k size (inr re) (inr i) r e =
    let more = restricts_pair m loops ms ds re.0 d params x y (λ b j. h b (inr j)) k size re.2 i r e in
    subst (λ (l : List Dependence). Left l params x y) (sym re.3) (more.0, inr more.1, more.2)

pub restricts_sized : (m : ℕ) (loops : List ℕ) (ms : List Marked) (ds kept : List Dependence)
    → ((e : Dependence) → In e ds → IsSizedDep loops e) → Restricts m ms ds kept → (e : Dependence)
    → In e kept → IsSizedDep loops e
restricts_sized m loops ms [] kept h re e i = absurd (subst (λ (l : List Dependence). In e l) re i)
restricts_sized m loops ms (c ∷ ds) kept h (inl re) e i =
    restricts_sized m loops ms ds kept (λ b j. h b (inr j)) re.1 e i
restricts_sized m loops ms (c ∷ ds) kept h (inr re) e i =
    elim (subst (λ (l : List Dependence). In e l) re.3 i) [
      | inl q ↦ subst (λ (z : Dependence). IsSizedDep loops z) (sym q)
          (sized_restricted m loops ms c (h c (inl refl)))
      | inr j ↦ restricts_sized m loops ms ds re.0 (λ b k. h b (inr k)) re.2 e j
    ]

pub uncuts_in : (numbers : List ℕ) (ds kept : List Dependence) (d : Dependence) → Uncuts numbers ds kept
    → In d ds
    → number_in numbers d.source.statement ≡ number_in numbers d.target.statement → In d kept
uncuts_in numbers [] kept d u i e = absurd i
uncuts_in numbers (c ∷ ds) kept d (inl u) (inl i) e =
    absurd (u.0 (subst (λ (z : Dependence). number_in numbers z.source.statement
    ≡ number_in numbers z.target.statement) i e))
uncuts_in numbers (c ∷ ds) kept d (inl u) (inr i) e = uncuts_in numbers ds kept d u.1 i e
uncuts_in numbers (c ∷ ds) kept d (inr u) (inl i) e =
    subst (λ (l : List Dependence). In d l) (sym u.3) (inl i)
uncuts_in numbers (c ∷ ds) kept d (inr u) (inr i) e =
    subst (λ (l : List Dependence). In d l) (sym u.3) (inr (uncuts_in numbers ds u.0 d u.2 i e))

pub uncuts_from : (numbers : List ℕ) (ds kept : List Dependence) (d : Dependence) → Uncuts numbers ds kept
    → In d kept → In d ds
uncuts_from numbers [] kept d u i = absurd (subst (λ (l : List Dependence). In d l) u i)
uncuts_from numbers (c ∷ ds) kept d (inl u) i = inr (uncuts_from numbers ds kept d u.1 i)
uncuts_from numbers (c ∷ ds) kept d (inr u) i = elim (subst (λ (l : List Dependence). In d l) u.3 i) [
  | inl q ↦ inl q
  | inr j ↦ inr (uncuts_from numbers ds u.0 d u.2 j)
]

-- a dependence's numbers do not fall
numbers_rise : (loops : List ℕ) (ds : List Dependence) (numbers : List ℕ) (e : Dependence)
    → IsNumbering (length loops) (edges_of ds) numbers → IsSizedDep loops e
    → In e ds → (number_in numbers e.source.statement < number_in numbers e.target.statement) ⊎
    (number_in numbers e.source.statement ≡ number_in numbers e.target.statement)
numbers_rise loops ds numbers e n h i =
    let le = n.rising e.source.statement e.target.statement h.source h.target
    (e.target.statement ∷ [], (in_map edge_of e ds i, refl)) in
    lt_or_eq (number_in numbers e.source.statement) (number_in numbers e.target.statement) le

sized_more : (loops : List ℕ) (ms : List Marked) (r : Marked) → AreSizedRows loops ms
    → ((s : ℕ) → length (part_of r.row s).coefficients ≡ loops_of loops s) → AreSizedRows loops (ms ++ r ∷ [])
sized_more loops [] r h k = (k, tt)
sized_more loops (m ∷ ms) r h k = (h.0, sized_more loops ms r h.1 k)

-- 2
pub holds_append : (m : ℕ) (loops : List ℕ) (deps : List Dependence) (s t : State)
    → Holds m loops deps s.closed s.rows s.remaining
    → (a : Appends m loops s t) → Holds m loops deps s.closed (s.rows ++ a.row ∷ []) s.remaining
holds_append m loops deps s t h a =
    let p = a.least.posed in
    record {
      sized = h.sized;
      sized_rows = sized_more loops s.rows a.row h.sized_rows p.sized;
      pairs = h.pairs;
      kept = λ e params x y i size r.
          kept_more s.rows a.row x y (h.kept e params x y i size r) (
            legal_kept m e a.row.row (suits loops e a.row.row (h.sized e i) p.sized)
                (p.legal e i) params x y size r,
            (λ mark. a.parallel.0 mark e i params x y size r),
            tt,
          );
    }

-- a pair of what remains goes through the open band
pub through : (m : ℕ) (loops : List ℕ) (deps : List Dependence) (closed : List Block) (rows : List Marked)
    (remaining kept : List Dependence)
    → Holds m loops deps closed rows remaining → Restricts m rows remaining kept
    → (d : Dependence) (params : List ℤ)
    (x y : Instance) → In d deps → length params ≡ m → Relates params d x y
    → Along (closed_by closed rows) x y (Left kept params x y)
through m loops deps closed rows remaining kept h re d params x y i size r =
    along_closed closed rows x y (Left kept params x y)
    (along_to closed x y (Left remaining params x y)
    (AreKept rows x y × (Rises rows x y ⊎ (AreEqual rows x y × Left kept params x y)))
    (λ l.
    let k = h.kept l.0 params x y l.1 size l.2 in (
      k,
      elim (rises_or_equal rows x y k) [
        | inl u ↦ inl u
        | inr e ↦ inr (
          e,
          restricts_pair m loops rows remaining kept l.0 params x y h.sized h.sized_rows size re l.1
              l.2 e,
        )
      ],
    ))
    (h.pairs d params x y i size r))

-- 3
pub holds_close : (m : ℕ) (loops : List ℕ) (deps : List Dependence) (closed : List Block) (rows : List Marked)
    (remaining kept : List Dependence)
    → Holds m loops deps closed rows remaining → Restricts m rows remaining kept → Holds m loops deps
    (closed_by closed rows) [] kept
holds_close m loops deps closed rows remaining kept h re =
    record {
      sized = restricts_sized m loops rows remaining kept h.sized re;
      sized_rows = tt;
      pairs = through m loops deps closed rows remaining kept h re;
      kept = λ e params x y i size r. tt;
    }

-- a scalar item: E is what holds of a remaining dependence whose statements have one number
pub past_scalar : (m : ℕ) (loops : List ℕ) (deps : List Dependence) (closed : List Block)
    (remaining : List Dependence) (numbers : List ℕ)
    (params : List ℤ) (x y : Instance) (E : Type 0)
    → ((d : Dependence) → In d remaining → IsSizedDep loops d)
    → IsNumbering (length loops) (edges_of remaining) numbers
    → ((e : Dependence) → In e remaining → Relates params e x y
    → number_in numbers e.source.statement ≡ number_in numbers e.target.statement → E)
    → Along closed x y (Left remaining params x y) → Along (closed ++ scalar numbers ∷ []) x y E
past_scalar m loops deps closed remaining numbers params x y E sized n same h =
    along_append closed (scalar numbers ∷ []) x y E
    (along_to closed x y (Left remaining params x y)
    ((number_in numbers x.number < number_in numbers y.number) ⊎
    ((number_in numbers x.number ≡ number_in numbers y.number) × E))
    (λ l.
    let sx = ap (λ (k : ℕ). number_in numbers k) l.2.source in
    let sy = ap (λ (k : ℕ). number_in numbers k) l.2.target in
    elim (numbers_rise loops remaining numbers l.0 n (sized l.0 l.1) l.1) [
      | inl u ↦ inl (subst (λ (k : ℕ). k < number_in numbers y.number) (sym sx)
          (subst (λ (k : ℕ). number_in numbers l.0.source.statement < k) (sym sy) u))
      | inr e ↦ inr (sx ∙ (e ∙ sym sy), same l.0 l.1 l.2 e)
    ])
    h)

-- 4
pub holds_cut : (m : ℕ) (loops : List ℕ) (deps : List Dependence) (closed : List Block) (rows : List Marked)
    (remaining kept : List Dependence) (numbers : List ℕ)
    → Holds m loops deps closed rows remaining → IsNumbering (length loops)
    (edges_of remaining) numbers → Uncuts numbers remaining kept
    → Holds m loops deps (closed ++ scalar numbers ∷ []) [] kept
holds_cut m loops deps closed rows remaining kept numbers h n u =
    record {
      sized = λ d i. h.sized d (uncuts_from numbers remaining kept d u i);
      sized_rows = tt;
      pairs = λ d params x y i size r.
          past_scalar m loops deps closed remaining numbers params x y (Left kept params x y) h.sized n
          (λ e j q same. (e, uncuts_in numbers remaining kept e u j same, q))
          (h.pairs d params x y i size r);
      kept = λ e params x y i size r. tt;
    }

moved_to : (m : ℕ) (loops : List ℕ) (deps : List Dependence) (t : State) (closed : List Block)
    (rows : List Marked) (remaining : List Dependence)
    → t.closed ≡ closed → t.rows ≡ rows → t.remaining ≡ remaining → Holds m loops deps closed rows remaining
    → Holds m loops deps t.closed t.rows t.remaining
moved_to m loops deps t closed rows remaining a b c h =
    subst (λ (z : List Block). Holds m loops deps z t.rows t.remaining) (sym a)
    (subst (λ (z : List Marked). Holds m loops deps closed z t.remaining) (sym b)
    (subst (λ (z : List Dependence). Holds m loops deps closed rows z) (sym c) h))

pub holds_step : (m : ℕ) (loops : List ℕ) (deps : List Dependence) (s t : State)
    → Holds m loops deps s.closed s.rows s.remaining
    → Goes m loops s t → Holds m loops deps t.closed t.rows t.remaining
holds_step m loops deps s t h (inl a) =
    moved_to m loops deps t s.closed (s.rows ++ a.row ∷ []) s.remaining a.closed a.rows a.remaining
    (holds_append m loops deps s t h a)
holds_step m loops deps s t h (inr (inl c)) =
    moved_to m loops deps t (closed_by s.closed s.rows) [] t.remaining c.closed c.rows refl
    (holds_close m loops deps s.closed s.rows s.remaining t.remaining h c.remaining)
holds_step m loops deps s t h (inr (inr c)) =
    moved_to m loops deps t (s.closed ++ scalar c.numbers ∷ []) [] t.remaining c.closed c.rows refl
    (holds_cut m loops deps s.closed s.rows s.remaining t.remaining c.numbers h c.numbering c.remaining)

-- 1
pub ended : (m : ℕ) (loops : List ℕ) (deps : List Dependence) (s : State) (blocks : List Block)
    → Holds m loops deps s.closed s.rows s.remaining
    → Ends m loops s blocks → (d : Dependence) (params : List ℤ)
    (x y : Instance) → In d deps → length params ≡ m → Relates params d x y
    → Along blocks x y (x.number ≡ y.number)
ended m loops deps s blocks h (inl e) d params x y i size r =
    subst (λ (z : List Block). Along z x y (x.number ≡ y.number)) (sym e.blocks_are)
    (along_to (closed_by s.closed s.rows) x y (Left [] params x y) (x.number ≡ y.number) (λ l. absurd l.1)
    (through m loops deps s.closed s.rows s.remaining [] h e.remaining d params x y i size r))
ended m loops deps s blocks h (inr e) d params x y i size r =
    let sized = restricts_sized m loops s.rows s.remaining e.left h.sized e.remaining in
    subst (λ (z : List Block). Along z x y (x.number ≡ y.number)) (sym e.blocks_are)
    (past_scalar m loops deps (closed_by s.closed s.rows) e.left e.numbers params x y
    (x.number ≡ y.number) sized e.numbering
    (λ c j q same. q.source
    ∙ (e.single c.source.statement c.target.statement (sized c j).source (sized c j).target same
    ∙ sym q.target))
    (through m loops deps s.closed s.rows s.remaining e.left h e.remaining d params x y i size r))

pub run_ended : (m : ℕ) (loops : List ℕ) (deps : List Dependence) (s : State) (ts : List State)
    (blocks : List Block)
    → Holds m loops deps s.closed s.rows s.remaining → Runs m loops s ts blocks
    → (d : Dependence) (params : List ℤ)
    (x y : Instance) → In d deps → length params ≡ m → Relates params d x y
    → Along blocks x y (x.number ≡ y.number)
run_ended m loops deps s [] blocks h e d params x y i size r =
    ended m loops deps s blocks h (next_ends m loops s blocks e) d params x y i size r
run_ended m loops deps s (t ∷ ts) blocks h e d params x y i size r =
    run_ended m loops deps t ts blocks
    (holds_step m loops deps s t h (next_goes m loops s t e.0)) e.1 d params x y i size r

-- when a run begins
pub holds_first : (m : ℕ) (loops : List ℕ) (deps taken : List Dependence)
    → ((d : Dependence) → In d deps → IsSizedDep loops d) → Restricts m [] deps taken → Holds m loops deps [] [] taken
holds_first m loops deps taken sized takes =
    record {
      sized = restricts_sized m loops [] deps taken sized takes;
      sized_rows = tt;
      pairs = λ d params x y i size r. restricts_pair m loops [] deps taken d params x y sized tt size takes i r tt;
      kept = λ e params x y i size r. tt;
    }

-- a schedule keeps each pair of each dependence, band by band
pub schedule_along : (m : ℕ) (loops : List ℕ) (deps : List Dependence) (blocks : List Block)
    → ((d : Dependence) → In d deps → IsSizedDep loops d)
    → IsSchedule m loops deps blocks → (d : Dependence) (params : List ℤ)
    (x y : Instance) → In d deps → length params ≡ m
    → Relates params d x y → Along blocks x y (x.number ≡ y.number)
schedule_along m loops deps blocks sized s d params x y i size r =
    run_ended m loops deps (record { closed = []; rows = []; remaining = s.taken }) s.states blocks
    (holds_first m loops deps s.taken sized s.takes) s.runs d params x y i size r
