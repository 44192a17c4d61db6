-- The rows of a schedule bound the distances of what is left where their band begins.
use Rattle.scop_syntax.proofs.Common.{◌≡◌, ℕ, ℤ, List, [], ◌∷◌, ◌++◌, sym, subst, inl, inr, length, append_assoc, ◌+ℤ◌}
use Rattle.scop_syntax.proofs.Common.{◌-ℤ◌, ◌≤ℤ◌, dot, LexLess, LexLess-irrefl, In, Instance, all_in}
use Rattle.std.proofs.lemmas.List.{append-nil}
use Rattle.iteration_domains.specs.Dependence.{Dependence}
use Rattle.schedule_rows.specs.Items.{Marked, Block, scalar, band, phi, values}
use Rattle.schedule_rows.specs.Dependences.{Relates}
use Rattle.schedule_rows.specs.Next.{State, IsSizedDep}
use Rattle.schedule_rows.specs.Outcomes.{IsSchedule, state}
use Rattle.schedule_rows.specs.Reaching.{Path}
use Rattle.schedule_rows.proofs.BandStarts.{IsMade, Began, AreBegun, schedule_begun}
use Rattle.schedule_rows.proofs.BlockOrder.{along_values}
use Rattle.schedule_rows.proofs.NextSteps.{next_goes}
use Rattle.schedule_rows.proofs.Pairs.{bounded_distance}
use Rattle.schedule_rows.proofs.RunInvariants.{Holds, Left, holds_first, holds_step, suits}

path_holds : (m : ℕ) (loops : List ℕ) (deps : List Dependence) (s : State) (vs : List State) (t : State)
    → Path m loops s vs t → Holds m loops deps s.closed s.rows s.remaining
    → Holds m loops deps t.closed t.rows t.remaining
path_holds m loops deps s [] t p h = subst (λ (z : State). Holds m loops deps z.closed z.rows z.remaining) p h
path_holds m loops deps s (v ∷ vs) t p h =
    path_holds m loops deps v vs t p.1 (holds_step m loops deps s v h (next_goes m loops s v p.0))

-- a band among blocks that stand behind others
begun_at : (m : ℕ) (loops : List ℕ) (deps : List Dependence) (front before : List Block) (rows : List Marked)
    (behind : List Block) → AreBegun m loops deps front (before ++ band rows ∷ behind)
    → Began m loops deps (front ++ before) rows
begun_at m loops deps front [] rows behind h =
    subst (λ (z : List Block). Began m loops deps z rows) (sym (append-nil front)) h.0
begun_at m loops deps front (scalar numbers ∷ bs) rows behind h =
    subst (λ (z : List Block). Began m loops deps z rows) (append_assoc front (scalar numbers ∷ []) bs)
    (begun_at m loops deps (front ++ scalar numbers ∷ []) bs rows behind h)
begun_at m loops deps front (band ms ∷ bs) rows behind h =
    subst (λ (z : List Block). Began m loops deps z rows) (append_assoc front (band ms ∷ []) bs)
    (begun_at m loops deps (front ++ band ms ∷ []) bs rows behind h.1)

-- a pair with equal values before a band is one of a dependence that is left when the band begins
left_behind : (m : ℕ) (loops : List ℕ) (deps remaining : List Dependence) (before : List Block) (params : List ℤ)
    (d : Dependence) (x y : Instance) → Holds m loops deps before [] remaining → In d deps → length params ≡ m
    → Relates params d x y → values before x ≡ values before y → Left remaining params x y
left_behind m loops deps remaining before params d x y h i size r same =
    elim (along_values before x y (Left remaining params x y) (h.pairs d params x y i size r)) [
      | inl l ↦ absurd (LexLess-irrefl (values before y) (subst (λ (z : List ℤ). LexLess z (values before y)) same l))
      | inr e ↦ e.1
    ]

-- a row of a band bounds the distance of each pair with equal values before the band
pub schedule_bounds : (m : ℕ) (loops : List ℕ) (deps : List Dependence) (before : List Block) (rows : List Marked)
    (behind : List Block) → ((d : Dependence) → In d deps → IsSizedDep loops d)
    → IsSchedule m loops deps (before ++ band rows ∷ behind) → (r : Marked) (d : Dependence) (params : List ℤ)
    (x y : Instance) → In r rows → In d deps → length params ≡ m → Relates params d x y
    → values before x ≡ values before y → (phi r.row y -ℤ phi r.row x) ≤ℤ (dot r.row.u params +ℤ r.row.w)
schedule_bounds m loops deps before rows behind sized s r d params x y i j size relates same =
    let began = begun_at m loops deps [] before rows behind
    (schedule_begun m loops deps (before ++ band rows ∷ behind) s) in
    let reached = began.reached in
    let holds = path_holds m loops deps (state [] [] reached.taken) reached.states (state before [] began.remaining)
    reached.path (holds_first m loops deps reached.taken sized reached.takes) in
    let left = left_behind m loops deps began.remaining before params d x y holds j size relates same in
    let made = all_in (IsMade m loops began.remaining) rows r began.made i in
    bounded_distance left.0 r.row params x y (suits loops left.0 r.row (holds.sized left.0 left.1) made.sized)
    (made.bounded left.0 left.1) left.2
