-- Where the bands of a schedule began, what their marks say, and what bounds their rows.
use Rattle.scop_syntax.proofs.Common.{◌≡◌, ℕ, zero, suc, ◌+◌, List, [], ◌∷◌, ◌++◌, refl, sym, ◌∙◌, ap, ap₂, subst, ◌⊎◌}
use Rattle.scop_syntax.proofs.Common.{inl, inr, arith, length, All, append_assoc, Some, Bool, true, ⊤, ◌↔◌, slice_get}
use Rattle.scop_syntax.proofs.Common.{Option, length-map, All-nil, All-cons, All-head, All-tail, All-append, In}
use Rattle.std.proofs.lemmas.List.{append-nil, length-append}
use Rattle.iteration_domains.specs.Dependence.{Dependence}
use Rattle.schedule_rows.specs.Items.{Row, Marked, Block, scalar, band, part_of, closed_by}
use Rattle.schedule_rows.specs.Dependences.{IsEqualAt}
use Rattle.schedule_rows.specs.Posed.{IsBounded, loops_of}
use Rattle.schedule_rows.specs.Next.{State, Restricts}
use Rattle.schedule_rows.specs.steps.Moves.{Goes, Ends}
use Rattle.schedule_rows.specs.Outcomes.{goes, state, Next, Runs, IsSchedule}
use Rattle.schedule_rows.specs.Reaching.{Path, Reached}
use Rattle.schedule_rows.specs.Schedule as plain
use Rattle.schedule_rows.specs.Schedule.{Item, items_of, marks_of, loops_in, Scheduled, IsScheduled, IsMarked}
use Rattle.schedule_rows.proofs.NextSteps.{next_goes, next_ends}
use Rattle.schedule_rows.proofs.BlockItems.{rows_as_items, marks_in, items_append}

pub path_more : (m : ℕ) (loops : List ℕ) (s : State) (vs : List State) (t u : State) → Path m loops s vs t
    → Next m loops t (goes u) → Path m loops s (vs ++ u ∷ []) u
path_more m loops s [] t u p n = (subst (λ (z : State). Next m loops z (goes u)) (sym p) n, refl)
path_more m loops s (v ∷ vs) t u p n = (p.0, path_more m loops v vs t u p.1 n)

-- one state further
pub reached_more : (m : ℕ) (loops : List ℕ) (deps : List Dependence) (s t : State) → Reached m loops deps s
    → Next m loops s (goes t) → Reached m loops deps t
reached_more m loops deps s t r n =
    record {
      taken = r.taken;
      states = r.states ++ t ∷ [];
      takes = r.takes;
      path = path_more m loops (state [] [] r.taken) r.states s t r.path n;
    }

pub reached_first : (m : ℕ) (loops : List ℕ) (deps taken : List Dependence) → Restricts m [] deps taken
    → Reached m loops deps (state [] [] taken)
reached_first m loops deps taken h = record { taken = taken; states = []; takes = h; path = refl }

-- a row is marked exactly where it has equal values at all pairs of what remains, and bounds their distances
pub record IsMade (m : ℕ) (loops : List ℕ) (remaining : List Dependence) (r : Marked) : Type 0 where
  pub exact : (r.parallel ≡ true) ↔ ((d : Dependence) → In d remaining → IsEqualAt m r.row d)
  pub sized : (s : ℕ) → length (part_of r.row s).coefficients ≡ loops_of loops s
  pub bounded : (d : Dependence) → In d remaining → IsBounded r.row d

-- a band, when it began
pub record Began (m : ℕ) (loops : List ℕ) (deps : List Dependence) (before : List Block) (ms : List Marked) : Type 0
  where
    pub remaining : List Dependence
    pub reached : Reached m loops deps (state before [] remaining)
    pub made : All (IsMade m loops remaining) ms

-- the bands among blocks that stand behind others
abbrev pub AreBegun : ℕ → List ℕ → List Dependence → List Block → List Block → Type 0
AreBegun m loops deps before [] = ⊤
AreBegun m loops deps before (scalar numbers ∷ bs) = AreBegun m loops deps (before ++ scalar numbers ∷ []) bs
AreBegun m loops deps before (band ms ∷ bs) =
    Began m loops deps before ms × AreBegun m loops deps (before ++ band ms ∷ []) bs

begun_append : (m : ℕ) (loops : List ℕ) (deps : List Dependence) (before bs cs : List Block)
    → AreBegun m loops deps before bs → AreBegun m loops deps (before ++ bs) cs
    → AreBegun m loops deps before (bs ++ cs)
begun_append m loops deps before [] cs h k =
    subst (λ (z : List Block). AreBegun m loops deps z cs) (append-nil before) k
begun_append m loops deps before (scalar numbers ∷ bs) cs h k =
    begun_append m loops deps (before ++ scalar numbers ∷ []) bs cs h
    (subst (λ (z : List Block). AreBegun m loops deps z cs) (sym (append_assoc before (scalar numbers ∷ []) bs)) k)
begun_append m loops deps before (band ms ∷ bs) cs h k = (
  h.0,
  begun_append m loops deps (before ++ band ms ∷ []) bs cs h.1
      (subst (λ (z : List Block). AreBegun m loops deps z cs) (sym (append_assoc before (band ms ∷ []) bs)) k),
)

-- what holds at a state that is reached
record Stands (m : ℕ) (loops : List ℕ) (deps : List Dependence) (s : State) : Type 0 where
  pub reached : Reached m loops deps s
  pub began : Reached m loops deps (state s.closed [] s.remaining)
  pub closed : AreBegun m loops deps [] s.closed
  pub rows : All (IsMade m loops s.remaining) s.rows

closed_begun : (m : ℕ) (loops : List ℕ) (deps : List Dependence) (closed : List Block) (rows : List Marked)
    (remaining : List Dependence) → Reached m loops deps (state closed [] remaining) → AreBegun m loops deps [] closed
    → All (IsMade m loops remaining) rows → AreBegun m loops deps [] (closed_by closed rows)
closed_begun m loops deps closed [] remaining r h k = h
closed_begun m loops deps closed (q ∷ qs) remaining r h k =
    begun_append m loops deps [] closed (band (q ∷ qs) ∷ []) h
    (record { remaining = remaining; reached = r; made = k }, tt)

-- a state whose band is not open yet
fresh : (m : ℕ) (loops : List ℕ) (deps : List Dependence) (t : State) (closed : List Block)
    → Reached m loops deps t → t.rows ≡ [] → t.closed ≡ closed → AreBegun m loops deps [] closed → Stands m loops deps t
fresh m loops deps t closed r e c h =
    record {
      reached = r;
      began = subst (λ (z : List Marked). Reached m loops deps (state t.closed z t.remaining)) e r;
      closed = subst (λ (z : List Block). AreBegun m loops deps [] z) (sym c) h;
      rows = subst (λ (z : List Marked). All (IsMade m loops t.remaining) z) (sym e)
          (All-nil (IsMade m loops t.remaining));
    }

stands_goes : (m : ℕ) (loops : List ℕ) (deps : List Dependence) (s t : State) → Stands m loops deps s
    → Reached m loops deps t → Goes m loops s t → Stands m loops deps t
stands_goes m loops deps s t h r (inl a) =
    let p = a.least.posed in
    let own : IsMade m loops s.remaining a.row =
    record { exact = a.parallel; sized = p.sized; bounded = p.bounded } in
    let rows = All-append (IsMade m loops s.remaining) s.rows (a.row ∷ []) h.rows
    (All-cons (IsMade m loops s.remaining) a.row [] own (All-nil (IsMade m loops s.remaining))) in
    record {
      reached = r;
      began = subst (λ (z : List Block). Reached m loops deps (state z [] t.remaining)) (sym a.closed)
          (subst (λ (z : List Dependence). Reached m loops deps (state s.closed [] z)) (sym a.remaining) h.began);
      closed = subst (λ (z : List Block). AreBegun m loops deps [] z) (sym a.closed) h.closed;
      rows = subst (λ (z : List Marked). All (IsMade m loops t.remaining) z) (sym a.rows)
          (subst (λ (z : List Dependence). All (IsMade m loops z) (s.rows ++ a.row ∷ [])) (sym a.remaining) rows);
    }
stands_goes m loops deps s t h r (inr (inl c)) =
    fresh m loops deps t (closed_by s.closed s.rows) r c.rows c.closed
    (closed_begun m loops deps s.closed s.rows s.remaining h.began h.closed h.rows)
stands_goes m loops deps s t h r (inr (inr c)) =
    fresh m loops deps t (s.closed ++ scalar c.numbers ∷ []) r c.rows c.closed
    (begun_append m loops deps [] s.closed (scalar c.numbers ∷ []) h.closed tt)

stands_ends : (m : ℕ) (loops : List ℕ) (deps : List Dependence) (s : State) (blocks : List Block)
    → Stands m loops deps s → Ends m loops s blocks → AreBegun m loops deps [] blocks
stands_ends m loops deps s blocks h (inl e) =
    subst (λ (z : List Block). AreBegun m loops deps [] z) (sym e.blocks_are)
    (closed_begun m loops deps s.closed s.rows s.remaining h.began h.closed h.rows)
stands_ends m loops deps s blocks h (inr e) =
    subst (λ (z : List Block). AreBegun m loops deps [] z) (sym e.blocks_are)
    (begun_append m loops deps [] (closed_by s.closed s.rows) (scalar e.numbers ∷ [])
    (closed_begun m loops deps s.closed s.rows s.remaining h.began h.closed h.rows) tt)

run_begun : (m : ℕ) (loops : List ℕ) (deps : List Dependence) (s : State) (ts : List State) (blocks : List Block)
    → Stands m loops deps s → Runs m loops s ts blocks → AreBegun m loops deps [] blocks
run_begun m loops deps s [] blocks h e = stands_ends m loops deps s blocks h (next_ends m loops s blocks e)
run_begun m loops deps s (t ∷ ts) blocks h e =
    run_begun m loops deps t ts blocks
    (stands_goes m loops deps s t h (reached_more m loops deps s t h.reached e.0) (next_goes m loops s t e.0)) e.1

-- the bands of a schedule
pub schedule_begun : (m : ℕ) (loops : List ℕ) (deps : List Dependence) (blocks : List Block)
    → IsSchedule m loops deps blocks
    → AreBegun m loops deps [] blocks
schedule_begun m loops deps blocks s =
    let first = reached_first m loops deps s.taken s.takes in
    run_begun m loops deps (state [] [] s.taken) s.states blocks
    (record { reached = first; began = first; closed = tt; rows = All-nil (IsMade m loops s.taken) }) s.runs

abbrev row_in : Row → Option Item → Row
row_in d (Some (plain.row r)) = r
row_in d o = d

abbrev mark_in : Bool → Option Bool → Bool
mark_in d (Some b) = b
mark_in d o = d

-- an item that is a row stands in the band, or behind it
in_band : (ms : List Marked) (items : List Item) (marks : List Bool) (k : ℕ) (r : Row) (mark : Bool)
    → slice_get (rows_as_items ms ++ items) k ≡ Some (plain.row r) → slice_get (marks_in ms ++ marks) k ≡ Some mark
    → (slice_get ms k ≡ Some (record { row = r; parallel = mark }))
    ⊎ ((j : ℕ) × (k ≡ length ms + j) × (slice_get items j ≡ Some (plain.row r)) × (slice_get marks j ≡ Some mark))
in_band [] items marks k r mark h g = inr (k, omega arith, h, g)
in_band (m ∷ ms) items marks zero r mark h g =
    inl (ap₂ (λ x y. Some (record { row = x; parallel = y })) (ap (row_in r) h) (ap (mark_in mark) g))
in_band (m ∷ ms) items marks (suc k) r mark h g = elim (in_band ms items marks k r mark h g) [
  | inl e ↦ inl e
  | inr e ↦ let at = e.1 in inr (e.0, omega arith, e.2, e.3)
]

abbrev marked_in : Marked → Option Marked → Marked
marked_in d (Some z) = z
marked_in d o = d

made_at : (m : ℕ) (loops : List ℕ) (remaining : List Dependence) (ms : List Marked) (k : ℕ) (r : Marked)
    → All (IsMade m loops remaining) ms → slice_get ms k ≡ Some r → IsMade m loops remaining r
made_at m loops remaining [] k r h e = absurd cc
made_at m loops remaining (q ∷ ms) zero r h e =
    subst (IsMade m loops remaining) (ap (marked_in r) e) (All-head (IsMade m loops remaining) q ms h)
made_at m loops remaining (q ∷ ms) (suc k) r h e =
    made_at m loops remaining ms k r (All-tail (IsMade m loops remaining) q ms h) e

-- where a row is found among blocks that stand behind others
record Found (m : ℕ) (loops : List ℕ) (deps : List Dependence) (all : List Block) (k : ℕ) (r : Row) (mark : Bool) : Type
    0 where
  pub before : List Block
  pub rows : List Marked
  pub behind : List Block
  pub at : ℕ
  pub remaining : List Dependence
  pub whole : all ≡ before ++ band rows ∷ behind
  pub began : Reached m loops deps (state before [] remaining)
  pub place : k ≡ length (items_of before) + at
  pub own : slice_get rows at ≡ Some (record { row = r; parallel = mark })
  pub exact : (mark ≡ true) ↔ ((d : Dependence) → In d remaining → IsEqualAt m r d)

moved : (m : ℕ) (loops : List ℕ) (deps : List Dependence) (all other : List Block) (k j : ℕ) (r : Row) (mark : Bool)
    → other ≡ all → k ≡ j → Found m loops deps all k r mark → Found m loops deps other j r mark
moved m loops deps all other k j r mark e f h =
    record {
      before = h.before;
      rows = h.rows;
      behind = h.behind;
      at = h.at;
      remaining = h.remaining;
      whole = e ∙ h.whole;
      began = h.began;
      place = sym f ∙ h.place;
      own = h.own;
      exact = h.exact;
    }

find_row : (m : ℕ) (loops : List ℕ) (deps : List Dependence) (before bs : List Block) (k : ℕ) (r : Row) (mark : Bool)
    → AreBegun m loops deps before bs → slice_get (items_of bs) k ≡ Some (plain.row r) → slice_get (marks_of bs) k
    ≡ Some mark
    → Found m loops deps (before ++ bs) (length (items_of before) + k) r mark
find_row m loops deps before [] k r mark h i g = absurd cc
find_row m loops deps before (scalar numbers ∷ bs) zero r mark h i g = absurd cc
find_row m loops deps before (scalar numbers ∷ bs) (suc k) r mark h i g =
    let one = scalar numbers ∷ [] in
    let a = ap length (items_append before one) in
    let b = length-append (items_of before) (items_of one) in
    moved m loops deps ((before ++ one) ++ bs) (before ++ scalar numbers ∷ bs) (length (items_of (before ++ one)) + k)
    (length (items_of before) + suc k) r mark (sym (append_assoc before one bs)) (omega arith)
    (find_row m loops deps (before ++ one) bs k r mark h i g)
find_row m loops deps before (band ms ∷ bs) k r mark h i g = elim (in_band ms (items_of bs) (marks_of bs) k r mark i g) [
  | inl own ↦ record {
    before = before;
    rows = ms;
    behind = bs;
    at = k;
    remaining = h.0.remaining;
    whole = refl;
    began = h.0.reached;
    place = refl;
    own = own;
    exact = (made_at m loops h.0.remaining ms k (record { row = r; parallel = mark }) h.0.made own).exact;
  }
  | inr e ↦
      let one = band ms ∷ [] in
      let a = ap length (items_append before one) in
      let b = length-append (items_of before) (items_of one) in
      let c = length-append (rows_as_items ms) [] in
      let d = length-map ms (λ z. plain.row z.row) in
      let at = e.1 in
      moved m loops deps ((before ++ one) ++ bs) (before ++ band ms ∷ bs) (length (items_of (before ++ one)) + e.0)
      (length (items_of before) + k) r mark (sym (append_assoc before one bs)) (omega arith)
      (find_row m loops deps (before ++ one) bs e.0 r mark h.1 e.2 e.3)
]

-- what an item's mark says
pub row_marked : (m : ℕ) (loops : List ℕ) (deps : List Dependence) (items : List Item) (marks : List Bool)
    (blocks : List Block)
    (k : ℕ) (r : Row) (mark : Bool) → IsSchedule m loops deps blocks → items ≡ items_of blocks → marks ≡ marks_of blocks
    → slice_get items k ≡ Some (plain.row r) → slice_get marks k ≡ Some mark → IsMarked m loops deps items k r mark
row_marked m loops deps items marks blocks k r mark s e f i g =
    let found = find_row m loops deps [] blocks k r mark (schedule_begun m loops deps blocks s)
    (subst (λ (z : List Item). slice_get z k ≡ Some (plain.row r)) e i)
    (subst (λ (z : List Bool). slice_get z k ≡ Some mark) f g) in
    let place = found.place in
    record {
      before = found.before;
      rows = found.rows;
      behind = found.behind;
      at = found.at;
      remaining = found.remaining;
      schedule = subst (λ (z : List Block). IsSchedule m loops deps z) found.whole s;
      whole = e ∙ ap items_of found.whole;
      began = found.began;
      place = omega arith;
      own = found.own;
      exact = found.exact;
    }

pub marked_at : (s : Scheduled) (k : ℕ) (r : Row) (mark : Bool) → IsScheduled s
    → slice_get s.items k ≡ Some (plain.row r) → slice_get s.parallel k ≡ Some mark
    → IsMarked s.model.parameters (loops_in s.model) s.deps s.items k r mark
marked_at s k r mark h i g =
    row_marked s.model.parameters (loops_in s.model) s.deps s.items s.parallel h.blocks k r mark h.run h.items
    h.parallel i g
