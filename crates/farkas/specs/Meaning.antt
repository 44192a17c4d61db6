-- What the rows of a claim on a dependence mean: Farkas's identity, and so what they say at each of its whole points.
use Rattle.std.specs.Prelude.{◌≡◌, ℕ, ℤ, pos, ◌+ℤ◌, ◌≤ℤ◌, List, ◌++◌, length, ◌↔◌, get_or}
use Rattle.whole_numbers.specs.Affine.{Affine}
use Rattle.whole_numbers.specs.Lists.{dot}
use Rattle.fractions.specs.Farkas.{HasFarkas, AreNotNegative, two_rows}
use Rattle.integer_sets.specs.Constraints.{Constraints}
use Rattle.integer_sets.specs.Points.{Satisfies}
use Rattle.farkas.specs.declared.claim.Claim.{Claim}
use Rattle.iteration_domains.specs.declared.dep.DepEnd.{DepEnd}
use Rattle.iteration_domains.specs.Dependence.{binds_between}
use Rattle.farkas.specs.Unknowns.{layout_of, coefficients_of, shift_of, bounds_of}
use Rattle.farkas.specs.Claims.{claimed}

-- phi at a statement's iterators: its coefficients times them, and its shift
abbrev pub phi : List ℤ → ℕ → ℕ → List ℤ → ℤ
phi unknowns first loops iterators = dot (coefficients_of unknowns first loops) iterators +ℤ shift_of unknowns first
    loops

-- the rows of a dependence, an equality being two
abbrev pub rows_of : Constraints → List Affine
rows_of s = two_rows s.equalities ++ s.rows

-- t is over the unknowns of a dependence, and whole ones that are not negative satisfy it exactly where Farkas's
-- identity holds of the claimed form
pub record IsFarkas (claim : Claim) (source target : DepEnd) (s t : Constraints) : Type 0 where
  pub dimensions : t.dimensions ≡ (layout_of s.parameters source target).unknowns
  pub parameters : t.parameters ≡ 0
  pub exact : (unknowns : List ℤ) → length unknowns ≡ t.dimensions → AreNotNegative unknowns
      → Satisfies t unknowns ↔ HasFarkas (rows_of s)
      (claimed claim source target (binds_between source target s) s.parameters unknowns)

-- the unknowns satisfy t
abbrev pub IsTaken : Constraints → List ℤ → Type 0
IsTaken t unknowns = (length unknowns ≡ t.dimensions) × AreNotNegative unknowns × Satisfies t unknowns

-- the source's iterators, the target's and the parameters are a point of a dependence, with some bound quotients
pub record IsInstance (source target : DepEnd) (s : Constraints) (i j p : List ℤ) : Type 0 where
  pub source_iterators : length i ≡ source.loops
  pub target_iterators : length j ≡ target.loops
  pub parameters : length p ≡ s.parameters
  pub bound : List ℤ
  pub quotients : length bound ≡ binds_between source target s
  pub inside : Satisfies s (i ++ (j ++ (bound ++ p)))

-- at each whole point of the dependence the target's row is not below the source's
abbrev pub Keeps : DepEnd → DepEnd → Constraints → Constraints → Type 0
Keeps source target s t =
    (unknowns i j p : List ℤ) → IsTaken t unknowns → IsInstance source target s i j p
    → phi unknowns (layout_of s.parameters source target).source source.loops i
    ≤ℤ phi unknowns (layout_of s.parameters source target).target target.loops j

-- at each whole point of the dependence the target's row is at most u.n + w above the source's
abbrev pub Bounds : DepEnd → DepEnd → Constraints → Constraints → Type 0
Bounds source target s t =
    (unknowns i j p : List ℤ) → IsTaken t unknowns → IsInstance source target s i j p
    → phi unknowns (layout_of s.parameters source target).target target.loops j
    ≤ℤ (phi unknowns (layout_of s.parameters source target).source source.loops i
    +ℤ (dot (bounds_of unknowns 0 s.parameters) p +ℤ get_or unknowns s.parameters (pos 0)))
