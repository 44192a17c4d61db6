-- What eliminations leave of a dimension alone, and projections of either kind: exact, or traced.
use Rattle.std.specs.Prelude.{◌≡◌, ℕ, zero, suc, ◌+◌, ◌-◌, List, [], ◌∷◌, ◌++◌, length, ℤ, Result, Ok, Err, ◌⊎◌, ⊤}
use Rattle.integer_sets.specs.Constraints.{Constraints}
use Rattle.integer_sets.specs.Points.{Satisfies}
use Rattle.fm_projection.specs.declared.stop.FmStop.{FmStop}
use Rattle.fm_projection.specs.Gives.{Eliminates}
use Rattle.fm_projection.specs.Projecting.{Passes, gone}
use Rattle.fm_projection.specs.Alone.{AllPass, AreInRange, StopsAlone, last_alone, last_with_parameters, range_rows}
use Rattle.fm_projection.specs.Alone.{ranged}
use Rattle.traced_projections.specs.declared.projections.Projection.{Projection}
use Rattle.traced_projections.specs.declared.projections.Projection.TheVariants.{Exact, Traced}
use Rattle.traced_projections.specs.Tracing.{Tracing, constraints_of, numbered, tracing}
use Rattle.traced_projections.specs.Eliminating.{Halts, PassesTraced, StopsTraced, traced_gone}

-- the dimension at place i gone n times
abbrev pub all_traced : ℕ → ℕ → Tracing → Tracing
all_traced i zero t = t
all_traced i (suc n) t = all_traced i n (traced_gone i t)

abbrev pub PassEach : ℕ → ℕ → Tracing → Type 0
PassEach i zero t = ⊤
PassEach i (suc n) t = PassesTraced i t × PassEach i n (traced_gone i t)

-- the first of n eliminations that stops does so
abbrev pub StopsEach : ℕ → ℕ → Tracing → FmStop → Type 0
StopsEach i zero t stop = ⊥
StopsEach i (suc n) t stop = StopsTraced i t stop ⊎ (PassesTraced i t × StopsEach i n (traced_gone i t) stop)

abbrev pub GoesTraced : ℕ → ℕ → Tracing → Result Tracing FmStop → Type 0
GoesTraced i n t (Ok u) = PassEach i n t × (u ≡ all_traced i n t)
GoesTraced i n t (Err stop) = Halts (StopsEach i n t) stop

-- the system with its parameters in range, as dimensions behind the others; the rows of the range are first rows, too
abbrev pub ranged_traced : Tracing → Tracing
ranged_traced t = tracing (t.dimensions + t.parameters) 0 t.equalities
    (t.rows ++ numbered 0 (range_rows (t.dimensions + t.parameters) t.dimensions t.parameters)) t.pairings

-- the last dimension and the parameters are left
abbrev pub last_traced : Tracing → Tracing
last_traced t = all_traced 0 (t.dimensions - 1) (ranged_traced t)

-- the last dimension alone
abbrev pub alone_traced : Tracing → Tracing
alone_traced t = all_traced 1 t.parameters (last_traced t)

-- the constraints of a projection
abbrev pub system_in : Projection → Constraints
system_in (Exact s) = s
system_in (Traced t) = constraints_of t

-- the projection without dimension i
abbrev pub without_of : ℕ → Projection → Projection
without_of i (Exact s) = Exact (gone i s)
without_of i (Traced t) = Traced (traced_gone i t)

abbrev pub PassesOf : ℕ → Projection → Type 0
PassesOf i (Exact s) = Passes i s
PassesOf i (Traced t) = PassesTraced i t

abbrev pub StopsOf : ℕ → Projection → FmStop → Type 0
StopsOf i (Exact s) stop = Eliminates i s (Err stop)
StopsOf i (Traced t) stop = StopsTraced i t stop

-- the call eliminates the dimension, or stops as the elimination does
abbrev pub DropsOf : ℕ → Projection → Result Projection FmStop → Type 0
DropsOf i p (Ok q) = PassesOf i p × (q ≡ without_of i p)
DropsOf i p (Err stop) = Halts (StopsOf i p) stop

-- its last dimension alone, for parameters in 0..=65536
abbrev pub alone_of : Projection → Constraints
alone_of (Exact s) = last_alone s
alone_of (Traced t) = constraints_of (alone_traced t)

-- the eliminations that leave it alone pass
abbrev pub PassesAlone : Projection → Type 0
PassesAlone (Exact s) = AllPass 0 (s.dimensions - 1) (ranged s) × AllPass 1 s.parameters (last_with_parameters s)
PassesAlone (Traced t) = PassEach 0 (t.dimensions - 1) (ranged_traced t) × PassEach 1 t.parameters (last_traced t)

-- the first that stops does so
abbrev pub StopsAloneOf : Projection → FmStop → Type 0
StopsAloneOf (Exact s) stop = StopsAlone s stop
StopsAloneOf (Traced t) stop =
    StopsEach 0 (t.dimensions - 1) (ranged_traced t) stop
    ⊎ (PassEach 0 (t.dimensions - 1) (ranged_traced t) × StopsEach 1 t.parameters (last_traced t) stop)

abbrev pub LeavesOf : Projection → Result Constraints FmStop → Type 0
LeavesOf p (Ok s) = PassesAlone p × (s ≡ alone_of p)
LeavesOf p (Err stop) = Halts (StopsAloneOf p) stop

-- the last dimension's value at each whole point of s, for parameters in range, is a point of t
abbrev pub LastFollows : Constraints → Constraints → Type 0
LastFollows s t = (outer : List ℤ) (x : ℤ) (params : List ℤ) → length outer + 1 ≡ s.dimensions → AreInRange params
    → Satisfies s (outer ++ x ∷ params) → Satisfies t (x ∷ [])
