-- The next state is a good one, and the step is that of the run.
use Rattle.scop_syntax.proofs.Common.{◌≡◌, ℕ, zero, suc, ◌<◌, ℤ, pos, List, [], ◌∷◌, ◌++◌, refl, sym, ◌∙◌, ap, ap₂}
use Rattle.scop_syntax.proofs.Common.{subst, inl, inr, arith, length, map, All, Vec, Global, ◌≤◌, ◌↔◌, Bool, true}
use Rattle.scop_syntax.proofs.Common.{false, slice_index_or, length-map, map-append, All-nil, All-push, In, in_at, Result}
use Rattle.scop_syntax.proofs.Common.{Ok, Err, IfOk, IfErr}
use Rattle.std.proofs.lemmas.List.{append-nil}
use Rattle.integer_sets.specs.Constraints.{Constraints}
use Rattle.iteration_domains.specs.Dependence.{Dependence}
use Rattle.null_space.specs.Narrowing.{narrowed_by}
use Rattle.null_space.specs.Sizes.{AreLong, AreCoefficients, AreNarrow}
use Rattle.null_space.proofs.ListLoops.{kernel_long, narrowed_length, narrowed_grows, kernel_more}
use Rattle.null_space.proofs.KernelSizes.{kernel_narrow}
use Rattle.stmt_graph.specs.Graph.{IsNumbering}
use Rattle.schedule_rows.specs.Items.{Row, Marked, Block, part_of, rows_in, scalar, closed_by}
use Rattle.schedule_rows.specs.Dependences.{IsEmptyDep, IsEqualAt, Suits, above_at, edges_of}
use Rattle.schedule_rows.specs.Next.{State, rows_of, Restricts, Uncuts, IsWithin}
use Rattle.schedule_rows.specs.Outcomes.{Outcome, goes, ends, no_order, state, Next}
use Rattle.schedule_rows.specs.Posed.{IsFull, IsLeast, coefficients_in}
use Rattle.schedule_rows.specs.Schedule.{block_of, marked_of, row_of}
use Rattle.schedule_rows.specs.declared.item.Row as code_row
use Rattle.schedule_rows.specs.declared.item.Part as code_part
use Rattle.schedule_rows.specs.declared.item.Block.TheVariants as code_block
use Rattle.schedule_rows.proofs.Measures.{VectorLaws, coefficients_append, vectors_more, rows_appended}
use Rattle.schedule_rows.proofs.Pairs.{legal_kept, parallel_exact}
use Rattle.pluto_systems.specs.Unknowns as unknowns
use Rattle.pluto_systems.specs.Posing.{RuledDep, dep_of, AreVectorsOf}
use Rattle.pluto_search.specs.declared.state.Search.{Search}
use Rattle.pluto_search.specs.declared.state.Progress.{Progress}
use Rattle.pluto_search.specs.declared.state.Step.TheVariants as step
use Rattle.pluto_search.specs.declared.kept.Kept.TheVariants as kept
use Rattle.pluto_search.specs.Questions.{AnswersRestricted, FindsNone, IsPosedAt, StopsAt, StopsRestricted}
use Rattle.pluto_search.specs.Searching.{AreBetween}
use Rattle.pluto_search.specs.steps.Good.{IsGood, IsGoodRow}
use Rattle.pluto_search.specs.steps.Sizes.{CanNarrow, CanNarrowEach, narrowed_each}
use Rattle.pluto_search.specs.steps.StepParts.{AreWithin, IsClosed, Cuts, EndsWith, Ended, IsAppended}
use Rattle.pluto_search.specs.steps.Steps.{state_of, vectors_in, AreRules, HasMore, Steps, going, KeepsAt}
use Rattle.pluto_search.specs.steps.Stopping.{IsStop}
use Rattle.pluto_search.proofs.Counts.{least_good, can_tell, counts_within}
use Rattle.pluto_search.proofs.QuestionStops.{stop_of, stop_at}

pub laws : VectorLaws
laws = record { most = narrowed_length; grows = narrowed_grows; more = kernel_more }

-- both statements of each dependence are among those there are
pub are_within : (m : ℕ) (loops : List ℕ) (deps : List Dependence) → AreBetween m loops deps
    → AreWithin (length loops) deps
are_within m loops deps h k d l =
    let own = (h (slice_index_or deps k d) (in_at deps k d l)).0 in
    (own.source, own.target)

-- a state without an open band behind the same rows is good
pub fresh : (m : ℕ) (loops : List ℕ) (s : State) (kernels : List (List (List ℤ))) (closed : List Block)
    (bare : List Dependence) → IsGood m loops s kernels → rows_in closed ≡ rows_of s → AreBetween m loops bare
    → IsGood m loops (state closed [] bare) kernels
fresh m loops s kernels closed bare g e b =
    let same : rows_in closed ++ [] ≡ rows_of s = append-nil (rows_in closed) ∙ e in
    record {
      vectors = subst (λ (z : List Row). AreVectorsOf loops z kernels) (sym same) g.vectors;
      small = subst (λ (z : List Row). (k : ℕ) → k < length loops → All AreCoefficients (coefficients_in z k))
          (sym same) g.small;
      rows = All-nil _;
      between = b;
    }

-- the next state, where no band is open
fresh_state : (q : Progress) (closed : List Block) → map block_of q.closed.items ≡ closed → q.rows.items ≡ []
    → q.ruled.items ≡ [] → state_of q ≡ state closed [] q.bare.items
fresh_state q closed c r u =
    ap (λ z. state z (map marked_of q.rows.items) (map dep_of q.ruled.items ++ q.bare.items)) c
    ∙ (ap (λ z. state closed (map marked_of z) (map dep_of q.ruled.items ++ q.bare.items)) r
    ∙ ap (λ z. state closed [] (map dep_of z ++ q.bare.items)) u)

-- the end
end_next : (g : Search) (s : State) (left : List Dependence) (blocks : List Block) (o : Outcome)
    → IsFull g.loops.now (rows_of s) → Restricts g.parameters s.rows s.remaining left
    → blocks ≡ closed_by s.closed s.rows → EndsWith g.loops.now blocks left o → Next g.parameters g.loops.now s o
end_next g s left blocks o full r b w =
    inl (full, (left, r, subst (λ (z : List Block). EndsWith g.loops.now z left o) b w))

-- the vectors are narrowed
narrowed_length_each : (cs : List (List ℤ)) (vs : List (List (List ℤ))) → length cs ≡ length vs
    → length (narrowed_each cs vs) ≡ length vs
narrowed_length_each [] [] h = refl
narrowed_length_each [] (v ∷ vs) h = absurd (omega (arith, h))
narrowed_length_each (c ∷ cs) [] h = absurd (omega (arith, h))
narrowed_length_each (c ∷ cs) (v ∷ vs) h = ap suc (narrowed_length_each cs vs (omega (arith, h)))

narrowed_at : (ps : List unknowns.Part) (vs : List (List (List ℤ))) (s : ℕ) → length ps ≡ length vs → s < length vs
    → slice_index_or (narrowed_each (map (λ p. p.coefficients) ps) vs) s []
    ≡ narrowed_by (slice_index_or ps s (record { coefficients = []; shift = pos 0 })).coefficients
    (slice_index_or vs s [])
narrowed_at [] [] s h l = absurd (omega (arith, l))
narrowed_at [] (v ∷ vs) s h l = absurd (omega (arith, h))
narrowed_at (p ∷ ps) [] s h l = absurd (omega (arith, h))
narrowed_at (p ∷ ps) (v ∷ vs) zero h l = refl
narrowed_at (p ∷ ps) (v ∷ vs) (suc s) h l = narrowed_at ps vs s (omega (arith, h)) (omega (arith, l))

-- they can be, each on its own
narrow_each : (ps : List unknowns.Part) (vs : List (List (List ℤ))) → length ps ≡ length vs
    → ((s : ℕ) → s < length vs
    → CanNarrow (slice_index_or ps s (record { coefficients = []; shift = pos 0 })).coefficients (slice_index_or vs s []))
    → CanNarrowEach (map (λ p. p.coefficients) ps) vs
narrow_each [] [] e h = tt
narrow_each [] (v ∷ vs) e h = absurd (omega (arith, e))
narrow_each (p ∷ ps) [] e h = absurd (omega (arith, e))
narrow_each (p ∷ ps) (v ∷ vs) e h =
    (h 0 (omega arith), narrow_each ps vs (omega (arith, e)) (λ s l. h (suc s) (omega (arith, l))))

abbrev pub plain_part : code_part.Part → unknowns.Part
plain_part p = record { coefficients = p.coefficients.items; shift = p.shift }

pub coefficients_are : (ps : List code_part.Part)
    → map (λ c. c.coefficients.items) ps ≡ map (λ (p : unknowns.Part). p.coefficients) (map plain_part ps)
coefficients_are [] = refl
coefficients_are (p ∷ ps) = ap (λ (z : List (List ℤ)). p.coefficients.items ∷ z) (coefficients_are ps)

-- a good row narrows the vectors
pub can_narrow : (p : Progress) (row : code_row.Row) → IsGoodRow p.search.now.loops.now (row_of row)
    → CanNarrowEach (map (λ c. c.coefficients.items) row.parts.items) (vectors_in p)
can_narrow p row good =
    let loops = p.search.now.loops.now in
    let r = row_of row in
    let v = p.good.vectors in
    subst (λ (z : List (List ℤ)). CanNarrowEach z (vectors_in p)) (sym (coefficients_are row.parts.items))
    (narrow_each r.parts (vectors_in p) (good.count ∙ sym v.size) (λ s l.
    let i = subst (λ (n : ℕ). s < n) v.size l in
    let five = p.search.now.small s 0 i in
    let size = good.sizes s in
    let before = coefficients_in (rows_of (state_of p)) s in
    let none : unknowns.Part = record { coefficients = []; shift = pos 0 } in
    record {
      few = omega arith;
      long = subst (λ (n : ℕ). AreLong n (slice_index_or (vectors_in p) s [])) (sym size)
          (subst (AreLong (slice_index_or loops s 0)) (sym (v.each s i)) (kernel_long (slice_index_or loops s 0) before));
      coefficients = counts_within (part_of r s).coefficients (good.small s none
          (subst (λ (n : ℕ). s < n) (sym good.count) i)).0;
      narrow = subst AreNarrow (sym (v.each s i)) (kernel_narrow (slice_index_or loops s 0) before five
          (p.good.small s i));
    }))

pub appended_state : (p q : Progress) (row : code_row.Row) (parallel : Bool) → IsAppended p row parallel q
    → state_of q ≡ state (state_of p).closed ((state_of p).rows ++ record { row = row_of row; parallel = parallel } ∷
    []) (state_of p).remaining
appended_state p q row parallel a =
    ap (λ z. state (map block_of z) (map marked_of q.rows.items) (map dep_of q.ruled.items ++ q.bare.items)) a.closed
    ∙ (ap (λ z. state (map block_of p.closed.items) (map marked_of z) (map dep_of q.ruled.items ++ q.bare.items)) a.rows
    ∙ (ap (λ z. state (map block_of p.closed.items) z (map dep_of q.ruled.items ++ q.bare.items))
    (map-append marked_of p.rows.items (record { row = row; parallel = parallel } ∷ []))
    ∙ ap₂ (λ x y. state (map block_of p.closed.items) (map marked_of p.rows.items
    ++ record { row = row_of row; parallel = parallel } ∷ []) (map dep_of x ++ y)) a.ruled a.bare))

-- the least row is appended
pub append_good : (m : ℕ) (loops : List ℕ) (s : State) (kernels more : List (List (List ℤ))) (r : Marked)
    → IsGood m loops s kernels → IsGoodRow loops r.row
    → more ≡ narrowed_each (map (λ (p : unknowns.Part). p.coefficients) r.row.parts) kernels
    → IsGood m loops (state s.closed (s.rows ++ r ∷ []) s.remaining) more
append_good m loops s kernels more r g good narrowed =
    let t = state s.closed (s.rows ++ r ∷ []) s.remaining in
    let rows = rows_of s in
    let all : rows_of t ≡ rows ++ r.row ∷ [] = rows_appended s t r refl refl in
    let parts = r.row.parts in
    let own : unknowns.Part → List ℤ = λ p. p.coefficients in
    let none : unknowns.Part = record { coefficients = []; shift = pos 0 } in
    let size = g.vectors.size in
    let same : length parts ≡ length kernels = good.count ∙ sym size in
    record {
      vectors = subst (λ (z : List Row). AreVectorsOf loops z more) (sym all)
          (record {
            size = ap length narrowed ∙ (narrowed_length_each (map own parts) kernels (length-map parts own ∙ same)
                ∙ size);
            each = λ k l.
                ap (λ (z : List (List (List ℤ))). slice_index_or z k []) narrowed
                ∙ (narrowed_at parts kernels k same (subst (λ (n : ℕ). k < n) (sym size) l)
                ∙ (ap (λ (z : List (List ℤ)). narrowed_by (part_of r.row k).coefficients z) (g.vectors.each k l)
                ∙ sym (vectors_more laws loops rows r.row k)));
          });
      small = subst (λ (z : List Row). (k : ℕ) → k < length loops → All AreCoefficients (coefficients_in z k))
          (sym all)
          (λ k l. subst (λ (z : List (List ℤ)). All AreCoefficients z) (sym (coefficients_append rows (r.row ∷ []) k))
          (All-push AreCoefficients (coefficients_in rows k) (part_of r.row k).coefficients (g.small k l)
          (counts_within (part_of r.row k).coefficients (good.small k none
          (subst (λ (n : ℕ). k < n) (sym good.count) l)).0)));
      rows = All-push (λ (q : Marked). IsGoodRow loops q.row) s.rows r g.rows good;
      between = g.between;
    }

-- it is parallel exactly where no dependence has a pair at which it rises
pub exact_mark : (m : ℕ) (loops : List ℕ) (deps : List Dependence) (before : List Row) (r : Row) (parallel : Bool)
    → AreBetween m loops deps → IsLeast m loops deps before r → IsWithin r
    → (parallel ≡ true → (d : Dependence) → In d deps → IsEmptyDep m (above_at m r d))
    → (parallel ≡ false → (d : Dependence) × In d deps × (IsEmptyDep m (above_at m r d) → ⊥))
    → (parallel ≡ true) ↔ ((d : Dependence) → In d deps → IsEqualAt m r d)
exact_mark m loops deps before r parallel between least within level rises =
    let level_is : (d : Dependence) → In d deps → IsEmptyDep m (above_at m r d) ↔ IsEqualAt m r d = λ d i.
    let t = can_tell m loops r d (least_good m loops deps before r least within) (between d i) in
    let s : Suits d r = (t.source_loops, t.target_loops) in
    parallel_exact m d r s (legal_kept m d r s (least.posed.legal d i)) in (
      λ e d i. (level_is d i).0 (level e d i),
      λ all. by_mark parallel rises (λ d i. (level_is d i).1 (all d i)),
    )
  where
    by_mark : (b : Bool) → (b ≡ false → (d : Dependence) × In d deps × (IsEmptyDep m (above_at m r d) → ⊥))
        → ((d : Dependence) → In d deps → IsEmptyDep m (above_at m r d)) → b ≡ true
    by_mark true h all = refl
    by_mark false h all = let x = h refl in absurd (x.2 (all x.0 x.1))

-- where none has its rows, they are theirs
pub no_rules : (budget : ℕ) (xs : List RuledDep) → xs ≡ [] → AreRules budget xs
no_rules budget xs e = subst (AreRules budget) (sym e) (All-nil _)

-- a step without an open band
pub cut_steps : (p : Progress) (deps : List Dependence) (posed : Constraints) (result : Result Progress kept.the_data)
    → deps ≡ (state_of p).remaining → HasMore p.search.now (state_of p)
    → FindsNone p.search.now.parameters p.search.now.loops.now p.search.now.budget (state_of p)
    → (state_of p).rows ≡ []
    → IsPosedAt p.search.now.parameters p.search.now.loops.now p.search.now.budget (state_of p) posed
    → Cuts p deps posed result → Steps p.search.now (state_of p) (going result)
cut_steps p deps posed (Ok q) e more none empty is c =
    let s = state_of p in
    let n = subst (λ (z : List Dependence). IsNumbering (length p.search.now.loops.now) (edges_of z) c.numbers) e
    c.numbering in
    let u = subst (λ (z : List Dependence). Uncuts c.numbers z q.bare.items) e c.bare in
    let f = subst (λ (z : List Dependence). length q.bare.items < length z) e c.fewer in
    let next = ap (λ z. goes z) (fresh_state q (s.closed ++ scalar c.numbers ∷ []) c.closed_are c.none_open c.none_ruled)
    in (
      inr (more, inr (none, inl empty)),
      inr (more, inr (none.1, inr (empty, (c.numbers, n, (q.bare.items, u, inl (f, next)))))),
      record { search = c.search; rules = no_rules p.search.now.budget q.ruled.items c.none_ruled },
    )
cut_steps p deps posed (Err (kept.Stuck stuck)) e more none empty is c = absurd c
cut_steps p deps posed (Err (kept.NoRow told)) e more none empty is h =
    let g = p.search.now in
    let c = h.1 in
    let n = subst (λ (z : List Dependence). IsNumbering (length g.loops.now) (edges_of z) c.numbers) e c.numbering in
    let u = subst (λ (z : List Dependence). Uncuts c.numbers z c.kept) e c.uncuts in
    let f = subst (λ (z : List Dependence). length z ≤ length c.kept) e c.all in (
      inr (more, inr (none, inl empty)),
      inr (more, inr (none.1, inr (empty, (c.numbers, n, (c.kept, u, inr (f, refl)))))),
      subst (IsPosedAt g.parameters g.loops.now g.budget (state_of p)) (sym h.0) is,
    )
cut_steps p deps posed (Err (kept.NoOrder component)) e more none empty is c = absurd c
cut_steps p deps posed (Err kept.NoMemory) e more none empty is c = tt
cut_steps p deps posed (Err (kept.Large row)) e more none empty is c = absurd c

-- a question where a band ends, by full rank
pub full_stops : (g : Search) (s : State) (k : kept.the_data) → IsFull g.loops.now (rows_of s)
    → IsStop (StopsRestricted g.parameters s.rows g.budget s.remaining) k → KeepsAt g s k
full_stops g s k full h =
    stop_at g s k
    (stop_of (StopsRestricted g.parameters s.rows g.budget s.remaining)
    (StopsAt g.parameters g.loops.now g.budget s) k (λ stop x. inl (full, x)) h)

-- a step that closes the open band
pub band_steps : (p : Progress) (result : Result Progress kept.the_data) → HasMore p.search.now (state_of p)
    → FindsNone p.search.now.parameters p.search.now.loops.now p.search.now.budget (state_of p)
    → ((state_of p).rows ≡ [] → ⊥) → IfOk result (IsClosed p)
    → IfOk result (λ _. AnswersRestricted p.search.now.parameters (state_of p).rows p.search.now.budget
    (state_of p).remaining)
    → IfErr result (IsStop (StopsRestricted p.search.now.parameters (state_of p).rows p.search.now.budget
    (state_of p).remaining))
    → Steps p.search.now (state_of p) (going result)
band_steps p (Ok q) more none some c answered stops =
    let s = state_of p in
    let next = ap (λ z. goes z) (fresh_state q (closed_by s.closed s.rows) c.closed_are c.none_open c.none_ruled) in (
      inr (more, inr (none, inr (some, answered))),
      inr (more, inr (none.1, inl (some, (q.bare.items, c.bare, next)))),
      record { search = c.search; rules = no_rules p.search.now.budget q.ruled.items c.none_ruled },
    )
band_steps p (Err k) more none some c answered stops =
    let g = p.search.now in
    let s = state_of p in
    stop_at g s k
    (stop_of (StopsRestricted g.parameters s.rows g.budget s.remaining)
    (StopsAt g.parameters g.loops.now g.budget s) k (λ stop x. inr (more, inr (inr (inr (none, some, x))))) stops)

-- the end of the run, or that nothing orders what is left
abbrev pub ending : Result (Vec code_block.the_data Global) kept.the_data → Result step.the_data kept.the_data
ending (Ok blocks) = Ok (step.Ends blocks)
ending (Err k) = Err k

pub end_steps : (g : Search) (s : State) (left : List Dependence) (blocks : List Block)
    (result : Result (Vec code_block.the_data Global) kept.the_data) → IsFull g.loops.now (rows_of s)
    → AnswersRestricted g.parameters s.rows g.budget s.remaining → Restricts g.parameters s.rows s.remaining left
    → blocks ≡ closed_by s.closed s.rows → Ended g.loops.now blocks left result → Steps g s (ending result)
end_steps g s left blocks (Ok bs) full a r b h =
    (inl (full, a), end_next g s left blocks (ends (map block_of bs.items)) full r b h)
end_steps g s left blocks (Err (kept.Stuck stuck)) full a r b h = absurd h
end_steps g s left blocks (Err (kept.NoRow posed)) full a r b h = absurd h
end_steps g s left blocks (Err (kept.NoOrder component)) full a r b h =
    (inl (full, a), end_next g s left blocks (no_order component) full r b h)
end_steps g s left blocks (Err kept.NoMemory) full a r b h = tt
end_steps g s left blocks (Err (kept.Large row)) full a r b h = absurd h
