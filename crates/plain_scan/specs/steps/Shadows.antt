-- A set's projections on its first dimensions: systems that none of its points leaves,
-- their rows and numbers, and why these are not found.
use Rattle.std.specs.Prelude.{◌≡◌, ℕ, ℤ, List, ◌∷◌, ◌++◌, length, zero, suc, ◌-◌, ◌<◌, pos, ◌≤ℤ◌, [], All}
use Rattle.integer_sets.specs.Constraints.{Constraints, IsSized, variables_in}
use Rattle.integer_sets.specs.Points.{Satisfies}
use Rattle.integer_sets.specs.Scanned.{Scanned}
use Rattle.plain_scan.specs.Sets.{IsKeyOf}
use Rattle.std.specs.Prelude.{Result, Ok, ⊤}
use Rattle.whole_numbers.specs.Affine.{Affine, value_of}
use Rattle.affine_forms.specs.Parts.{variables_of}
use Rattle.fm_projection.specs.declared.stop.FmStop.{FmStop}
use Rattle.fm_projection.specs.declared.stop.FmStop.TheVariants as fm
use Rattle.fm_projection.specs.Projecting.{projected}
use Rattle.fm_projection.specs.Alone.{last_alone}
use Rattle.traced_projections.specs.declared.projections.Projection.{Projection}
use Rattle.traced_projections.specs.Projections.{DropsOf, PassesAlone, StopsAloneOf, alone_of, system_in}
use Rattle.plain_scan.specs.Between.{HasSmallNumbers, IsLargeOf}
use Rattle.plain_scan.specs.declared.outline.Shadow.{Shadow}
use Rattle.plain_scan.specs.Outlines.{AreSmallEnds, IsOpen}

-- a system over the first m dimensions and the parameters that holds at each point of the set
abbrev pub IsShadow : ℕ → Scanned → Constraints → Type 0
IsShadow m s t = (params outer r : List ℤ) → length outer ≡ m → IsKeyOf params s (outer ++ r)
    → Satisfies t (outer ++ params)

-- each whole point of t, without its entry m, is one of u: all that is asked of an elimination
abbrev pub Follow : ℕ → Constraints → Constraints → Type 0
Follow m t u = (outer : List ℤ) (x : ℤ) (params : List ℤ) → length outer ≡ m → Satisfies t (outer ++ x ∷ params)
    → Satisfies u (outer ++ params)

-- a row of small numbers over the system's variables that none of its whole points leaves
pub record IsRow (t : Constraints) (f : Affine) : Type 0 where
  pub sized : variables_of f ≡ variables_in t
  pub small : HasSmallNumbers f
  pub holds : (point : List ℤ) → Satisfies t point → pos 0 ≤ℤ value_of f point

-- a form over the system's variables that is 0 at each of its whole points
pub record IsEquality (t : Constraints) (f : Affine) : Type 0 where
  pub sized : variables_of f ≡ variables_in t
  pub holds : (point : List ℤ) → Satisfies t point → value_of f point ≡ pos 0

-- such rows
abbrev pub AreRows : Constraints → List Affine → Type 0
AreRows t fs = All (IsRow t) fs

-- rows of a projection, and small numbers between which what is left of its last dimension alone lies
pub record IsShadowIn (t last : Constraints) (shadow : Shadow) : Type 0 where
  pub rows : AreRows t shadow.rows.items
  pub between : (x : ℤ) → Satisfies last (x ∷ []) → (shadow.low ≤ℤ x) × (x ≤ℤ shadow.high)
  pub small : AreSmallEnds shadow

-- one of the exact projections of a set on its first dimensions is open in its last
pub record IsOpenSomewhere (s : Constraints) : Type 0 where
  pub sized : IsSized (variables_in s) s.equalities s.rows
  pub before : ℕ
  pub less : before < s.dimensions
  pub there : IsOpen (last_alone (projected before s))

-- the numbers of what is left alone give no shadow, since one is beyond 2^40; want of memory is free
abbrev pub StopsNumbers : Constraints → FmStop → Type 0
StopsNumbers last (fm.Wide w) = ⊥
StopsNumbers last (fm.Crowded pairs) = ⊥
StopsNumbers last (fm.Large number) = IsLargeOf last number
StopsNumbers last fm.NoMemory = ⊤

-- the shadow of a projection is not found, since an elimination stops or a number is beyond 2^40; want of memory is
-- free
abbrev pub StopsShadow : Projection → FmStop → Type 0
StopsShadow p (fm.Wide w) = StopsAloneOf p (fm.Wide w)
StopsShadow p (fm.Crowded pairs) = StopsAloneOf p (fm.Crowded pairs)
StopsShadow p (fm.Large number) = PassesAlone p × IsLargeOf (alone_of p) number
StopsShadow p fm.NoMemory = ⊤

-- the projection that comes behind n others: without the last dimension of the one before it, or the first itself
abbrev pub IsNext : ℕ → Projection → Result Projection FmStop → Type 0
IsNext zero last result = result ≡ Ok last
IsNext (suc n) last result = DropsOf ((system_in last).dimensions - 1) last result
