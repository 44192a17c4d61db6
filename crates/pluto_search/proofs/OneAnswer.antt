-- A search has one answer.
use Rattle.scop_syntax.proofs.Common.{◌≡◌, ◌∙◌, ap, ap₂, sym, subst, inl, inr, refl, ℕ, ◌<◌, ◌⊎◌, true, false, List, []}
use Rattle.scop_syntax.proofs.Common.{◌∷◌, map, All, true≢false, Option, None, Some, Vec, ℤ, Result, Ok, Err, All-head}
use Rattle.scop_syntax.proofs.Common.{All-tail}
use Rattle.std.specs.Global.{Global}
use Rattle.std.proofs.lemmas.List.{ext_get_or}
use Rattle.integer_sets.specs.Constraints.{Constraints}
use Rattle.iteration_domains.specs.Dependence.{Dependence}
use Rattle.iteration_domains.specs.Model.{KernelModel}
use Rattle.pluto_systems.specs.Posing.{RuledDep, dep_of, ruled_run, AreVectorsOf, posed_system}
use Rattle.pluto_systems.specs.Stuck.TheVariants as stuck
use Rattle.schedule_rows.specs.Dependences.{above_at}
use Rattle.schedule_rows.specs.Items.{Row, Marked}
use Rattle.schedule_rows.specs.Next.{State, rows_of, restricted, IsWithin}
use Rattle.schedule_rows.specs.Outcomes.{Outcome, goes, ends, no_row, no_order, large, state, Next}
use Rattle.schedule_rows.specs.Reaching.{Path}
use Rattle.schedule_rows.specs.Schedule.{Scheduled, IsScheduled, scheduled, items_of, bands_from, marks_of}
use Rattle.schedule_rows.specs.Schedule.{loops_in}
use Rattle.schedule_rows.proofs.Determinism.{least_unique, restricts_unique, same_head, same_tail}
use Rattle.schedule_rows.proofs.OneSchedule.{OneOutcome}
use Rattle.pluto_search.specs.declared.kept.Kept.TheVariants as kept
use Rattle.pluto_search.specs.Alike.{AreAlike, IsDecided, IsOneStuck}
use Rattle.pluto_search.specs.Questions.{AnswersAlong, AnswersAt, AnswersLeast, AnswersMark}
use Rattle.pluto_search.specs.Questions.{AnswersMarks, AnswersRestricted, Answered, AreRuledBy, AsksEnd, AsksFirst}
use Rattle.pluto_search.specs.Questions.{AsksLeast, AsksMark, FindsNone, FindsRow, IsAnswered, IsPosedAt, IsRuledBy}
use Rattle.pluto_search.specs.Questions.{IsTold, StopsAt, StopsEmptiness, StopsMarks, StopsRestricted, StopsRows}
use Rattle.pluto_search.specs.Questions.{AnswersNone, AnswersRow, StopsMinimum, StopsRowsOf}
use Rattle.pluto_search.specs.Searching.{Searches}
use Rattle.pluto_search.proofs.Firsts.{none_first, one_first}
use Rattle.pluto_search.proofs.GoodStates.{all_ruled}
use Rattle.pluto_search.proofs.OneStop.{answers_apart, least_apart, ok_one, one_halt, one_least, one_question}
use Rattle.pluto_search.proofs.OneStop.{question_apart, rows_apart}

-- dependences have one list of rows
one_ruled : (budget : ℕ) (xs ys : List RuledDep) → map dep_of xs ≡ map dep_of ys → AreRuledBy budget xs
    → AreRuledBy budget ys → xs ≡ ys
one_ruled budget [] [] e h k = refl
one_ruled budget [] (y ∷ ys) e h k = absurd cc
one_ruled budget (x ∷ xs) [] e h k = absurd cc
one_ruled budget (x ∷ xs) (y ∷ ys) e h k =
    let P : RuledDep → Type 0 = λ z. ruled_run budget z.dep ≡ Ok z in
    let deps = ap (ruled_run budget) (same_head x.dep y.dep (map dep_of xs) (map dep_of ys) e) in
    ap₂ (λ (z : RuledDep) (zs : List RuledDep). z ∷ zs)
    (ok_one (ruled_run budget x.dep) x y (All-head P x xs h) (deps ∙ All-head P y ys k))
    (one_ruled budget xs ys (same_tail x.dep y.dep (map dep_of xs) (map dep_of ys) e)
    (All-tail P x xs h) (All-tail P y ys k))

one_vectors : (loops : List ℕ) (before : List Row) (v w : List (List (List ℤ))) → AreVectorsOf loops before v
    → AreVectorsOf loops before w → v ≡ w
one_vectors loops before v w h k =
    ext_get_or [] v w (h.size ∙ sym k.size) (λ i l.
    let below = subst (λ (n : ℕ). i < n) h.size l in h.each i below ∙ sym (k.each i below))

-- a state poses one system
one_system : (m : ℕ) (loops : List ℕ) (budget : ℕ) (s : State) (p q : Constraints) → IsPosedAt m loops budget s p
    → IsPosedAt m loops budget s q → p ≡ q
one_system m loops budget s p q h k =
    let rows = one_ruled budget h.ruled k.ruled (h.deps ∙ sym k.deps) h.by_run k.by_run in
    let vectors = one_vectors loops (rows_of s) h.vectors k.vectors h.vectors_are k.vectors_are in
    h.system ∙ (ap (λ (xs : List RuledDep). posed_system m loops xs h.vectors) rows
    ∙ (ap (λ (vs : List (List (List ℤ))). posed_system m loops k.ruled vs) vectors ∙ sym k.system))

module _ (m : ℕ) (loops : List ℕ) (budget : ℕ) (s : State) where
  -- of a band's end one question is the first that stops
  one_restricted : (rows : List Marked) (deps : List Dependence) (a b : stuck.the_data) → IsTold a → IsTold b
      → StopsRestricted m rows budget deps a → StopsRestricted m rows budget deps b → IsOneStuck a b
  one_restricted rows deps a b t u h k =
      one_first (λ d. IsAnswered budget (restricted m rows d)) (λ d. StopsEmptiness budget (restricted m rows d) a)
      (λ d. StopsEmptiness budget (restricted m rows d) b) (IsOneStuck a b) deps
      (λ d x y. question_apart budget (restricted m rows d) x.0 a t x.1 y)
      (λ d x y. question_apart budget (restricted m rows d) x.0 b u x.1 y)
      (λ d x y. one_question budget (restricted m rows d) a b t u x y) h k

  restricted_apart : (rows : List Marked) (deps : List Dependence) (a : stuck.the_data) → IsTold a
      → AnswersRestricted m rows budget deps → StopsRestricted m rows budget deps a → ⊥
  restricted_apart rows deps a t h k =
      none_first (λ d. IsAnswered budget (restricted m rows d)) (λ d. StopsEmptiness budget (restricted m rows d) a)
      deps
      (λ d x y. question_apart budget (restricted m rows d) x.0 a t x.1 y) h k

  -- of the rows by Farkas's lemma
  one_rows : (a b : stuck.the_data) → IsTold a → IsTold b → StopsRowsOf budget s.remaining a
      → StopsRowsOf budget s.remaining b → IsOneStuck a b
  one_rows a b t u h k =
      one_first (IsRuledBy budget) (λ d. StopsRows budget d a) (λ d. StopsRows budget d b) (IsOneStuck a b) s.remaining
      (λ d x y. rows_apart budget d a t x y) (λ d x y. rows_apart budget d b u x y)
      (λ d x y. one_halt budget (ruled_run budget d) a b t u x y) h k

  posed_apart : (p : Constraints) (a : stuck.the_data) → IsTold a → IsPosedAt m loops budget s p
      → StopsRowsOf budget s.remaining a → ⊥
  posed_apart p a t h k =
      none_first (IsRuledBy budget) (λ d. StopsRows budget d a) s.remaining (λ d x y. rows_apart budget d a t x y)
      (subst (λ (ds : List Dependence). All (IsRuledBy budget) ds) h.deps (all_ruled budget h.ruled h.by_run)) k

  -- the least point is found, or the question for it stops
  point_apart : (found : Option (Vec ℤ Global)) (a : stuck.the_data) → IsTold a → AnswersLeast m loops budget s found
      → AsksLeast m loops budget s a → ⊥
  point_apart found a t h k =
      let same = one_system m loops budget s k.0 h.0 k.1 h.1 in
      least_apart budget h.0 found a t h.2 (subst (λ (p : Constraints). StopsMinimum budget p a) same k.2)

  -- there is a least row, or none
  row_apart : (r : Row) → FindsRow m loops budget s r → FindsNone m loops budget s → ⊥
  row_apart r h k = k.1 r h.1.posed

  one_row : (r q : Row) → FindsRow m loops budget s r → FindsRow m loops budget s q → r ≡ q
  one_row r q h k = least_unique m loops s.remaining (rows_of s) r q h.1 k.1

  mark_apart : (r : Row) (d : Dependence) → AnswersMark m r budget true d → AnswersMark m r budget false d → ⊥
  mark_apart r d h k = true≢false (answers_apart budget (above_at m r d) true false h k)

  marks_apart : (r : Row) (a : stuck.the_data) → IsTold a → AnswersMarks m r budget s.remaining
      → StopsMarks m r budget s.remaining a → ⊥
  marks_apart r a t (inl h) k =
      none_first (AnswersMark m r budget true) (λ d. StopsEmptiness budget (above_at m r d) a) s.remaining
      (λ d x y. question_apart budget (above_at m r d) true a t x y) h k
  marks_apart r a t (inr h) k =
      one_first (AnswersMark m r budget true) (AnswersMark m r budget false)
      (λ d. StopsEmptiness budget (above_at m r d) a) ⊥ s.remaining (mark_apart r)
      (λ d x y. question_apart budget (above_at m r d) true a t x y)
      (λ d x y. question_apart budget (above_at m r d) false a t x y) h k

  one_mark : (a b : stuck.the_data) → IsTold a → IsTold b → AsksMark m loops budget s a → AsksMark m loops budget s b
      → IsOneStuck a b
  one_mark a b t u h k =
      let stops = subst (λ (r : Row). StopsMarks m r budget s.remaining a) (one_row h.0 k.0 h.1 k.1) h.3 in
      one_first (AnswersMark m k.0 budget true) (λ d. StopsEmptiness budget (above_at m k.0 d) a)
      (λ d. StopsEmptiness budget (above_at m k.0 d) b) (IsOneStuck a b) s.remaining
      (λ d x y. question_apart budget (above_at m k.0 d) true a t x y)
      (λ d x y. question_apart budget (above_at m k.0 d) true b u x y)
      (λ d x y. one_question budget (above_at m k.0 d) a b t u x y) stops k.3

  row_posed : (r : Row) (a : stuck.the_data) → IsTold a → FindsRow m loops budget s r
      → StopsRowsOf budget s.remaining a → ⊥
  row_posed r a t ((numbers, (p, is, least)), row) x = posed_apart p a t is x

  row_asked : (r : Row) (a : stuck.the_data) → IsTold a → FindsRow m loops budget s r → AsksLeast m loops budget s a
      → ⊥
  row_asked r a t ((numbers, least), row) x = point_apart (Some numbers) a t least x

  -- a state whose questions are all answered has none that stops
  none_stops : (a : stuck.the_data) → IsTold a → AnswersAt m loops budget s → StopsAt m loops budget s a → ⊥
  none_stops a t (inl h) (inl k) = restricted_apart s.rows s.remaining a t h.1 k.1
  none_stops a t (inl h) (inr k) = k.0 h.0
  none_stops a t (inr h) (inl k) = h.0 k.0
  none_stops a t (inr h) (inr k) = go h.1 k.1
    where
      go : AnswersRow m loops budget s ⊎ AnswersNone m loops budget s
          → StopsRowsOf budget s.remaining a ⊎ (AsksLeast m loops budget s a ⊎ (AsksMark m loops budget s a
          ⊎ AsksEnd m loops budget s a)) → ⊥
      go (inl r) (inl x) = row_posed r.0 a t r.1 x
      go (inl r) (inr (inl x)) = row_asked r.0 a t r.1 x
      go (inl r) (inr (inr (inl x))) = elim (r.2) [
        | inl marks ↦ marks_apart r.0 a t marks.1
            (subst (λ (q : Row). StopsMarks m q budget s.remaining a) (one_row x.0 r.0 x.1 r.1) x.3)
        | inr out ↦ out (subst IsWithin (one_row x.0 r.0 x.1 r.1) x.2)
      ]
      go (inl r) (inr (inr (inr x))) = row_apart r.0 r.1 x.0
      go (inr n) (inl x) = posed_apart n.0.0.0 a t n.0.0.1 x
      go (inr n) (inr (inl x)) = point_apart None a t n.0.0 x
      go (inr n) (inr (inr (inl x))) = row_apart x.0 x.1 n.0
      go (inr n) (inr (inr (inr x))) = elim (n.1) [
        | inl empty ↦ x.1 empty
        | inr some ↦ restricted_apart s.rows s.remaining a t some.1 x.2
      ]

  -- one stops
  one_stops : (a b : stuck.the_data) → IsTold a → IsTold b → StopsAt m loops budget s a → StopsAt m loops budget s b
      → IsOneStuck a b
  one_stops a b t u (inl h) (inl k) = one_restricted s.rows s.remaining a b t u h.1 k.1
  one_stops a b t u (inl h) (inr k) = absurd (k.0 h.0)
  one_stops a b t u (inr h) (inl k) = absurd (h.0 k.0)
  one_stops a b t u (inr h) (inr k) = go h.1 k.1
    where
      go : StopsRowsOf budget s.remaining a ⊎ (AsksLeast m loops budget s a ⊎ (AsksMark m loops budget s a
          ⊎ AsksEnd m loops budget s a))
          → StopsRowsOf budget s.remaining b ⊎ (AsksLeast m loops budget s b ⊎ (AsksMark m loops budget s b
          ⊎ AsksEnd m loops budget s b)) → IsOneStuck a b
      go (inl x) (inl y) = one_rows a b t u x y
      go (inl x) (inr (inl y)) = absurd (posed_apart y.0 a t y.1 x)
      go (inl x) (inr (inr (inl y))) = absurd (row_posed y.0 a t y.1 x)
      go (inl x) (inr (inr (inr y))) = absurd (posed_apart y.0.0.0 a t y.0.0.1 x)
      go (inr (inl x)) (inl y) = absurd (posed_apart x.0 b u x.1 y)
      go (inr (inl x)) (inr (inl y)) =
          one_least budget y.0 a b t u
          (subst (λ (p : Constraints). StopsMinimum budget p a) (one_system m loops budget s x.0 y.0 x.1 y.1) x.2) y.2
      go (inr (inl x)) (inr (inr (inl y))) = absurd (row_asked y.0 a t y.1 x)
      go (inr (inl x)) (inr (inr (inr y))) = absurd (point_apart None a t y.0.0 x)
      go (inr (inr (inl x))) (inl y) = absurd (row_posed x.0 b u x.1 y)
      go (inr (inr (inl x))) (inr (inl y)) = absurd (row_asked x.0 b u x.1 y)
      go (inr (inr (inl x))) (inr (inr (inl y))) = one_mark a b t u x y
      go (inr (inr (inl x))) (inr (inr (inr y))) = absurd (row_apart x.0 x.1 y.0)
      go (inr (inr (inr x))) (inl y) = absurd (posed_apart x.0.0.0 b u x.0.0.1 y)
      go (inr (inr (inr x))) (inr (inl y)) = absurd (point_apart None b u x.0.0 y)
      go (inr (inr (inr x))) (inr (inr (inl y))) = absurd (row_apart y.0 y.1 x.0)
      go (inr (inr (inr x))) (inr (inr (inr y))) = one_restricted s.rows s.remaining a b t u x.2 y.2

-- nothing goes on behind a state whose questions are answered
abbrev Rests : ℕ → List ℕ → ℕ → State → Type 0
Rests m loops budget s = (t : State) → AnswersAt m loops budget s → Next m loops s (goes t) → ⊥

-- a run comes to one state at which it rests
one_rest : OneOutcome → (m : ℕ) (loops : List ℕ) (budget : ℕ) (s : State) (us : List State) (u : State)
    (vs : List State) (v : State) → Path m loops s us u → Path m loops s vs v → AnswersAlong m loops budget s us
    → AnswersAlong m loops budget s vs → Rests m loops budget u → Rests m loops budget v → u ≡ v
one_rest one m loops budget s [] u [] v p q a b x y = sym p ∙ q
one_rest one m loops budget s [] u (t ∷ vs) v p q a b x y =
    absurd (x t (subst (AnswersAt m loops budget) p b.0) (subst (λ (z : State). Next m loops z (goes t)) p q.0))
one_rest one m loops budget s (t ∷ us) u [] v p q a b x y =
    absurd (y t (subst (AnswersAt m loops budget) q a.0) (subst (λ (z : State). Next m loops z (goes t)) q p.0))
one_rest one m loops budget s (t ∷ us) u (r ∷ vs) v p q a b x y =
    let goes_on = one m loops s (goes t) (goes r) p.0 q.0 in
    let same : t ≡ r = cc in
    one_rest one m loops budget r us u vs v (subst (λ (z : State). Path m loops z us u) same p.1) q.1
    (subst (λ (z : State). AnswersAlong m loops budget z us) same a.1) b.1 x y

one_last : OneOutcome → (m : ℕ) (loops : List ℕ) (budget : ℕ) (deps : List Dependence) (u v : State)
    → Answered m loops budget deps u → Answered m loops budget deps v → Rests m loops budget u
    → Rests m loops budget v → u ≡ v
one_last one m loops budget deps u v h k x y =
    let same = restricts_unique m [] deps h.reached.taken k.reached.taken h.reached.takes k.reached.takes in
    one_rest one m loops budget (state [] [] k.reached.taken) h.reached.states u k.reached.states v
    (subst (λ (ds : List Dependence). Path m loops (state [] [] ds) h.reached.states u) same h.reached.path)
    k.reached.path
    (subst (λ (ds : List Dependence). AnswersAlong m loops budget (state [] [] ds) h.reached.states) same h.along)
    k.along x y

-- an answer tells the outcome of a run that rests at s
abbrev Tells : KernelModel → List Dependence → ℕ → State → Outcome → Result Scheduled kept.the_data → Type 0
Tells model deps budget s (ends blocks) (Ok found) =
    found ≡ scheduled model deps (items_of blocks) (bands_from 0 blocks) (marks_of blocks)
Tells model deps budget s no_row (Err (kept.NoRow posed)) = IsPosedAt model.parameters (loops_in model) budget s posed
Tells model deps budget s (no_order component) (Err (kept.NoOrder told)) = component ≡ told
Tells model deps budget s (large row) (Err (kept.Large told)) = row ≡ told
Tells model deps budget s o a = ⊥

-- where the search rests with an answer: at a question that stops, or at an outcome
abbrev RestsWith : KernelModel → List Dependence → ℕ → State → Result Scheduled kept.the_data → Type 0
RestsWith model deps budget s a =
    ((stop : stuck.the_data) × (a ≡ Err (kept.Stuck stop)) × IsTold stop
    × StopsAt model.parameters (loops_in model) budget s stop)
    ⊎ ((o : Outcome) × AnswersAt model.parameters (loops_in model) budget s
    × Next model.parameters (loops_in model) s o × Tells model deps budget s o a)

-- or one of the first questions stops
abbrev Comes : KernelModel → List Dependence → ℕ → Result Scheduled kept.the_data → Type 0
Comes model deps budget a =
    ((stop : stuck.the_data) × (a ≡ Err (kept.Stuck stop)) × IsTold stop × AsksFirst budget deps stop)
    ⊎ ((s : State) × Answered model.parameters (loops_in model) budget deps s × RestsWith model deps budget s a)

found_is : (model : KernelModel) (deps : List Dependence) (found : Scheduled) (is : IsScheduled found)
    → found.model ≡ model → found.deps ≡ deps
    → found ≡ scheduled model deps (items_of is.blocks) (bands_from 0 is.blocks) (marks_of is.blocks)
found_is model deps found is a b =
    ap (λ (z : KernelModel). scheduled z found.deps found.items found.bands found.parallel) a
    ∙ (ap (λ (z : List Dependence). scheduled model z found.items found.bands found.parallel) b
    ∙ (ap (λ z. scheduled model deps z found.bands found.parallel) is.items
    ∙ (ap (λ z. scheduled model deps (items_of is.blocks) z found.parallel) is.bands
    ∙ ap (λ z. scheduled model deps (items_of is.blocks) (bands_from 0 is.blocks) z) is.parallel)))

comes : (model : KernelModel) (deps : List Dependence) (budget : ℕ) (a : Result Scheduled kept.the_data)
    → Searches model deps budget a → IsDecided a → Comes model deps budget a
comes model deps budget (Ok found) h d =
    inr (h.3.last, h.3.answered, inr (ends h.2.blocks, h.3.own, h.3.next, found_is model deps found h.2 h.0 h.1))
comes model deps budget (Err (kept.Stuck stop)) h d = elim (h.1) [
  | inl first ↦ inl (stop, refl, h.0, first)
  | inr at ↦ inr (at.0, at.1, inl (stop, refl, h.0, at.2))
]
comes model deps budget (Err (kept.NoRow posed)) h d = inr (h.0, h.1, inr (no_row, h.2, h.3, h.4))
comes model deps budget (Err (kept.NoOrder component)) h d =
    inr (h.last, h.answered, inr (no_order component, h.own, h.next, refl))
comes model deps budget (Err kept.NoMemory) h d = absurd d
comes model deps budget (Err (kept.Large row)) h d = inr (h.last, h.answered, inr (large row, h.own, h.next, refl))

rests : OneOutcome → (model : KernelModel) (deps : List Dependence) (budget : ℕ) (s : State)
    (a : Result Scheduled kept.the_data) → RestsWith model deps budget s a
    → Rests model.parameters (loops_in model) budget s
rests one model deps budget s a (inl h) = λ t own next.
    none_stops model.parameters (loops_in model) budget s h.0 h.2 own h.3
rests one model deps budget s a (inr h) = λ t own next.
    subst (λ (o : Outcome). Tells model deps budget s o a)
    (one model.parameters (loops_in model) s h.0 (goes t) h.2 next) h.3

-- answers that tell one outcome
alike : (model : KernelModel) (deps : List Dependence) (budget : ℕ) (s : State) (o : Outcome)
    (a b : Result Scheduled kept.the_data) → Tells model deps budget s o a → Tells model deps budget s o b
    → AreAlike a b
alike model deps budget s (ends blocks) (Ok f) (Ok g) h k = h ∙ sym k
alike model deps budget s (ends blocks) (Ok f) (Err k) h x = absurd x
alike model deps budget s no_row (Err (kept.NoRow p)) (Err (kept.NoRow q)) h k =
    one_system model.parameters (loops_in model) budget s p q h k
alike model deps budget s no_row (Err (kept.NoRow p)) b h k = absurd k
alike model deps budget s (no_order c) (Err (kept.NoOrder d)) (Err (kept.NoOrder e)) h k = sym h ∙ k
alike model deps budget s (no_order c) (Err (kept.NoOrder d)) b h k = absurd k
alike model deps budget s (large r) (Err (kept.Large d)) (Err (kept.Large e)) h k = sym h ∙ k
alike model deps budget s (large r) (Err (kept.Large d)) b h k = absurd k
alike model deps budget s o a b h k = absurd h

-- answers by stops
alike_stops : (a b : Result Scheduled kept.the_data) (x y : stuck.the_data) → a ≡ Err (kept.Stuck x)
    → b ≡ Err (kept.Stuck y) → IsOneStuck x y → AreAlike a b
alike_stops a b x y e f one =
    subst (λ (z : Result Scheduled kept.the_data). AreAlike z b) (sym e)
    (subst (λ (z : Result Scheduled kept.the_data). AreAlike (Err (kept.Stuck x)) z) (sym f) one)

-- answers at one state
alike_at : OneOutcome → (model : KernelModel) (deps : List Dependence) (budget : ℕ) (s : State)
    (a b : Result Scheduled kept.the_data) → RestsWith model deps budget s a → RestsWith model deps budget s b
    → AreAlike a b
alike_at one model deps budget s a b (inl h) (inl k) =
    alike_stops a b h.0 k.0 h.1 k.1
    (one_stops model.parameters (loops_in model) budget s h.0 k.0 h.2 k.2 h.3 k.3)
alike_at one model deps budget s a b (inl h) (inr k) =
    absurd (none_stops model.parameters (loops_in model) budget s h.0 h.2 k.1 h.3)
alike_at one model deps budget s a b (inr h) (inl k) =
    absurd (none_stops model.parameters (loops_in model) budget s k.0 k.2 h.1 k.3)
alike_at one model deps budget s a b (inr h) (inr k) =
    alike model deps budget s k.0 a b
    (subst (λ (o : Outcome). Tells model deps budget s o a) (one model.parameters (loops_in model) s h.0 k.0 h.2 k.2)
    h.3) k.3

-- a search has one answer
pub one_answer : OneOutcome → (model : KernelModel) (deps : List Dependence) (budget : ℕ)
    (a b : Result Scheduled kept.the_data) → Searches model deps budget a → Searches model deps budget b
    → IsDecided a → IsDecided b → AreAlike a b
one_answer one model deps budget a b h k x y = go (comes model deps budget a h x) (comes model deps budget b k y)
  where
    apart : (stop : stuck.the_data) → IsTold stop → All (IsAnswered budget) deps → AsksFirst budget deps stop → ⊥
    apart stop t all first =
        none_first (IsAnswered budget) (λ d. StopsEmptiness budget d stop) deps
        (λ d p q. question_apart budget d p.0 stop t p.1 q) all first

    go : Comes model deps budget a → Comes model deps budget b → AreAlike a b
    go (inl p) (inl q) =
        alike_stops a b p.0 q.0 p.1 q.1
        (one_first (IsAnswered budget) (λ d. StopsEmptiness budget d p.0) (λ d. StopsEmptiness budget d q.0)
        (IsOneStuck p.0 q.0) deps (λ d v w. question_apart budget d v.0 p.0 p.2 v.1 w)
        (λ d v w. question_apart budget d v.0 q.0 q.2 v.1 w)
        (λ d v w. one_question budget d p.0 q.0 p.2 q.2 v w) p.3 q.3)
    go (inl p) (inr q) = absurd (apart p.0 p.2 q.1.first p.3)
    go (inr p) (inl q) = absurd (apart q.0 q.2 p.1.first q.3)
    go (inr p) (inr q) =
        let same = one_last one model.parameters (loops_in model) budget deps p.0 q.0 p.1 q.1
        (rests one model deps budget p.0 a p.2) (rests one model deps budget q.0 b q.2) in
        alike_at one model deps budget q.0 a b
        (subst (λ (s : State). RestsWith model deps budget s a) same p.2) q.2
