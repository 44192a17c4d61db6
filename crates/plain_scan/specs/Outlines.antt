-- Rows and numbers that hold at each point of a set's projections, and why they are not found.
use Rattle.std.specs.Prelude.{◌≡◌, ℕ, zero, suc, ◌+◌, ◌-◌, ◌<◌, ◌≤◌, ◌^◌, ℤ, pos, ◌≤ℤ◌, List, ◌∷◌, ◌++◌, length}
use Rattle.std.specs.Prelude.{get_or, All, unsigned_abs, ◌⊎◌, ⊤}
use Rattle.whole_numbers.specs.Affine.{Affine, value_of}
use Rattle.affine_forms.specs.Parts.{variables_of}
use Rattle.integer_sets.specs.Constraints.{Constraints, IsSized, variables_in}
use Rattle.integer_sets.specs.Points.{Satisfies}
use Rattle.integer_sets.specs.Scanned.{Scanned}
use Rattle.fm_projection.specs.declared.stop.FmStop.{FmStop}
use Rattle.fm_projection.specs.declared.stop.FmStop.TheVariants as fm
use Rattle.scop_syntax.specs.Limits.{AreInRange}
use Rattle.traced_projections.specs.declared.projections.Projection.{Projection}
use Rattle.traced_projections.specs.declared.projections.Projection.TheVariants.{Exact, Traced}
use Rattle.traced_projections.specs.Tracing.{traced}
use Rattle.traced_projections.specs.Projections.{PassesAlone, PassesOf, StopsAloneOf, StopsOf, alone_of}
use Rattle.traced_projections.specs.Projections.{system_in, without_of}
use Rattle.plain_scan.specs.Between.{HasSmallNumbers, IsLargeOf, IsOpenAbove, IsOpenBelow}
use Rattle.plain_scan.specs.Sets.{IsKeyOf}
use Rattle.plain_scan.specs.declared.outline.Shadow.{Shadow}

-- small numbers
abbrev pub AreSmallEnds : Shadow → Type 0
AreSmallEnds shadow = (unsigned_abs shadow.low ≤ 2 ^ 40) × (unsigned_abs shadow.high ≤ 2 ^ 40)

-- the row is at least 0 at the first values of each key of the set, all but those of the last n dimensions, for
-- parameters in range
abbrev pub HoldsBefore : ℕ → Scanned → Affine → Type 0
HoldsBefore n s f = (params outer r : List ℤ) → AreInRange params → length outer + n ≡ s.system.dimensions
    → IsKeyOf params s (outer ++ r) → pos 0 ≤ℤ value_of f (outer ++ params)

-- such a row, of small numbers
pub record IsRowBefore (n : ℕ) (s : Scanned) (f : Affine) : Type 0 where
  pub sized : variables_of f + n ≡ variables_in s.system
  pub small : HasSmallNumbers f
  pub holds : HoldsBefore n s f

-- rows over all dimensions but the last n, and small numbers between which the last of these lies at each key
pub record IsShadowOf (n : ℕ) (s : Scanned) (shadow : Shadow) : Type 0 where
  pub rows : All (IsRowBefore n s) shadow.rows.items
  pub between : (params outer : List ℤ) (x : ℤ) (r : List ℤ) → AreInRange params
      → length outer + suc n ≡ s.system.dimensions → IsKeyOf params s (outer ++ x ∷ r)
      → (shadow.low ≤ℤ x) × (x ≤ℤ shadow.high)
  pub small : AreSmallEnds shadow

-- the numbers of a set's own constraints are small
abbrev pub HasSmallConstraints : Constraints → Type 0
HasSmallConstraints s = All HasSmallNumbers s.equalities × All HasSmallNumbers s.rows

-- the shadows of a set of small numbers: over all dimensions, over all but the last, and so on
pub record AreShadows (s : Scanned) (shadows : List Shadow) : Type 0 where
  pub sized : IsSized (variables_in s.system) s.system.equalities s.system.rows
  pub small : HasSmallConstraints s.system
  pub count : length shadows ≡ s.system.dimensions
  pub each : (n : ℕ) (d : Shadow) → n < length shadows → IsShadowOf n s (get_or shadows n d)

-- no bound of the one dimension is found: from below none is there, or from above
abbrev pub IsOpen : Constraints → Type 0
IsOpen last = IsOpenBelow last ⊎ IsOpenAbove last

-- the set has no whole point for parameters in 0..=65536
abbrev pub HasNoPoint : Constraints → Type 0
HasNoPoint s =
    (params values : List ℤ) → AreInRange params → length values ≡ s.dimensions → Satisfies s (values ++ params) → ⊥

-- the projection on all dimensions but the last n, which go from the last on
abbrev pub projection_at : ℕ → Projection → Projection
projection_at zero p = p
projection_at (suc n) p = without_of ((system_in p).dimensions - suc n) (projection_at n p)

-- each of the first n of these eliminations passes
abbrev pub PassProjecting : ℕ → Projection → Type 0
PassProjecting n p = (k : ℕ) → k < n → PassesOf ((system_in p).dimensions - suc k) (projection_at k p)

-- so do those that leave the last dimension alone of each of the first n projections
abbrev pub PassEachAlone : ℕ → Projection → Type 0
PassEachAlone n p = (k : ℕ) → k < n → PassesAlone (projection_at k p)

-- the eliminations up to one of the projections pass, and it is open in its last dimension
pub record IsOpenFrom (p : Projection) : Type 0 where
  pub before : ℕ
  pub less : before < (system_in p).dimensions
  pub passed : PassProjecting before p
  pub alone : PassEachAlone (suc before) p
  pub there : IsOpen (alone_of (projection_at before p))

-- the first elimination of the projections that stops does so: of the others and the parameters, for the last
-- dimension alone, or then of the last dimension, if it is not the first
pub record StopsAt (p : Projection) (stop : FmStop) : Type 0 where
  pub before : ℕ
  pub less : before < (system_in p).dimensions
  pub passed : PassProjecting before p
  pub alone : PassEachAlone before p
  pub stops : StopsAloneOf (projection_at before p) stop
      ⊎ ((suc before < (system_in p).dimensions) × PassesAlone (projection_at before p)
      × StopsOf ((system_in p).dimensions - suc before) (projection_at before p) stop)

-- a number beyond 2^40 is one of what is left of a projection's last dimension alone, where the eliminations on the way
-- pass
pub record IsLargeAt (p : Projection) (number : ℤ) : Type 0 where
  pub before : ℕ
  pub less : before < (system_in p).dimensions
  pub passed : PassProjecting before p
  pub alone : PassEachAlone before p
  pub last : PassesAlone (projection_at before p)
  pub large : IsLargeOf (alone_of (projection_at before p)) number

-- it is one of the set's own, where all eliminations of its projections pass
pub record IsLargeOwn (s : Constraints) (p : Projection) (number : ℤ) : Type 0 where
  pub passed : PassProjecting (s.dimensions - 1) p
  pub alone : PassEachAlone s.dimensions p
  pub large : IsLargeOf s number

-- why the shadows of a set are not found by these projections; want of memory is free
abbrev pub StopsBy : Constraints → Projection → FmStop → Type 0
StopsBy s p (fm.Wide w) = StopsAt p (fm.Wide w)
StopsBy s p (fm.Crowded pairs) = StopsAt p (fm.Crowded pairs)
StopsBy s p (fm.Large number) = IsLargeAt p number ⊎ IsLargeOwn s p number
StopsBy s p fm.NoMemory = ⊤

-- the projections that trace their rows stop so, or one of them is open and the exact ones stop so
abbrev pub StopsSet : Constraints → FmStop → Type 0
StopsSet s stop = StopsBy s (Traced (traced s)) stop ⊎ (IsOpenFrom (Traced (traced s)) × StopsBy s (Exact s) stop)
