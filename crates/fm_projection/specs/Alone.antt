-- A system's last dimension alone, for parameters in 0..=65536.
use Rattle.std.specs.Prelude.{◌≡◌, ℕ, zero, suc, ◌+◌, ◌-◌, ◌<◌, ℤ, pos, negsuc, ◌*ℤ◌, ◌≤ℤ◌, ◌<ℤ◌, List, [], ◌∷◌, ◌++◌}
use Rattle.std.specs.Prelude.{length, set, All, Result, Ok, Err, ◌⊎◌, ⊤, ◌^◌, ◌*◌, ◌≤◌, unsigned_abs}
use Rattle.whole_numbers.specs.Affine.{Affine, form_of}
use Rattle.whole_numbers.specs.Lists.{zeros}
use Rattle.fractions.specs.Fractions.{HoldsOver}
use Rattle.integer_sets.specs.Constraints.{Constraints, system_of}
use Rattle.fm_projection.specs.declared.stop.FmStop.{FmStop}
use Rattle.fm_projection.specs.declared.stop.FmStop.TheVariants as fm
use Rattle.fm_projection.specs.Gives.{Eliminates}
use Rattle.fm_projection.specs.Projecting.{Passes, all_gone}

-- k times variable i of n, and a constant
abbrev pub place_form : ℕ → ℕ → ℤ → ℤ → Affine
place_form n i k c = form_of (set (zeros n) i k) c

-- m variables of n, from i on, lie in 0..=65536
abbrev pub range_rows : ℕ → ℕ → ℕ → List Affine
range_rows n i zero = []
range_rows n i (suc m) =
    place_form n i (pos 1) (pos 0) ∷ place_form n i (negsuc 0) (pos 65536) ∷ range_rows n (suc i) m

-- the system with its parameters in range, as dimensions behind the others
abbrev pub ranged : Constraints → Constraints
ranged s = system_of (s.dimensions + s.parameters) 0 s.equalities
    (s.rows ++ range_rows (s.dimensions + s.parameters) s.dimensions s.parameters)

-- the others gone: the dimensions in front of the last
abbrev pub last_with_parameters : Constraints → Constraints
last_with_parameters s = all_gone 0 (s.dimensions - 1) (ranged s)

-- what is left of the last dimension alone, for parameters in range: the other dimensions go from the first on, and
-- then the parameters
abbrev pub last_alone : Constraints → Constraints
last_alone s = all_gone 1 s.parameters (last_with_parameters s)

-- each of the first n eliminations of the dimension at place i passes
abbrev pub AllPass : ℕ → ℕ → Constraints → Type 0
AllPass i n s = (k : ℕ) → k < n → Passes i (all_gone i k s)

-- one of the first n eliminations of the dimension at place i stops so, and those before it pass
pub record StopsGoing (i n : ℕ) (s : Constraints) (stop : FmStop) : Type 0 where
  pub before : ℕ
  pub less : before < n
  pub passed : AllPass i before s
  pub stops : Eliminates i (all_gone i before s) (Err stop)

-- the call eliminates n times the dimension at place i, or stops as the first of these eliminations that stops; want
-- of memory may stop it anywhere
abbrev pub Going : ℕ → ℕ → Constraints → Result Constraints FmStop → Type 0
Going i n s (Ok t) = AllPass i n s × (t ≡ all_gone i n s)
Going i n s (Err (fm.Wide w)) = StopsGoing i n s (fm.Wide w)
Going i n s (Err (fm.Crowded pairs)) = StopsGoing i n s (fm.Crowded pairs)
Going i n s (Err (fm.Large number)) = ⊥
Going i n s (Err fm.NoMemory) = ⊤

-- one of the eliminations that leave the last dimension alone stops so, and those before it pass
abbrev pub StopsAlone : Constraints → FmStop → Type 0
StopsAlone s stop =
    StopsGoing 0 (s.dimensions - 1) (ranged s) stop
    ⊎ (AllPass 0 (s.dimensions - 1) (ranged s) × StopsGoing 1 s.parameters (last_with_parameters s) stop)

-- the call leaves the last dimension alone, or stops as the first elimination on the way that stops; want of memory may
-- stop it anywhere
abbrev pub LeavesAlone : Constraints → Result Constraints FmStop → Type 0
LeavesAlone s (Ok t) =
    AllPass 0 (s.dimensions - 1) (ranged s) × AllPass 1 s.parameters (last_with_parameters s) × (t ≡ last_alone s)
LeavesAlone s (Err (fm.Wide w)) = StopsAlone s (fm.Wide w)
LeavesAlone s (Err (fm.Crowded pairs)) = StopsAlone s (fm.Crowded pairs)
LeavesAlone s (Err (fm.Large number)) = ⊥
LeavesAlone s (Err fm.NoMemory) = ⊤

-- a whole parameter lies in 0..=65536; each does
abbrev pub IsInRange : ℤ → Type 0
IsInRange p = (pos 0 ≤ℤ p) × (p ≤ℤ pos 65536)

abbrev pub AreInRange : List ℤ → Type 0
AreInRange params = All IsInRange params

-- a parameter of fractions does; each does
abbrev pub IsInRangeOver : ℤ → ℤ → Type 0
IsInRangeOver d p = (pos 0 ≤ℤ p) × (p ≤ℤ (pos 65536 *ℤ d))

abbrev pub AreInRangeOver : ℤ → List ℤ → Type 0
AreInRangeOver d params = All (IsInRangeOver d) params

-- for parameters in 0..=65536 each dimension lies within 2^64 over fractions: |x / d| <= 2^64
abbrev pub IsBounded : Constraints → Type 0
IsBounded s = (d : ℤ) (numerators params : List ℤ) → pos 0 <ℤ d → length numerators ≡ s.dimensions
    → length params ≡ s.parameters → AreInRangeOver d params
    → HoldsOver s.equalities s.rows d (numerators ++ params)
    → All (λ x. unsigned_abs x ≤ 2 ^ 64 * unsigned_abs d) numerators
