-- What a sequence of trees visits of the sets, wherever the rows round it hold.
use Rattle.std.specs.Prelude.{◌≡◌, true, ℕ, ℤ, pos, ◌≤ℤ◌, List, [], ◌∷◌, ◌++◌, ⊤, ◌<ℤ◌, length, map}
use Rattle.whole_numbers.specs.Affine.{Affine, value_of, widened}
use Rattle.integer_sets.specs.Points.{Satisfies}
use Rattle.integer_sets.specs.Scanned.{Scanned}
use Rattle.loop_tree.specs.Tree.{Trees}
use Rattle.loop_tree.specs.Walk.{all_hold}
use Rattle.loop_tree.specs.steps.Scanning.{Covers, ScansAll}
use Rattle.plain_scan.specs.Sets.{Keys, Leaf}
use Rattle.fractions.specs.Elimination.{coefficient_of}
use Rattle.scop_syntax.specs.Limits.{AreInRange}

-- each form is 0 at the point
abbrev pub AllZero : List Affine → List ℤ → Type 0
AllZero [] point = ⊤
AllZero (f ∷ fs) point = (value_of f point ≡ pos 0) × AllZero fs point

-- each form is at least 0 at the point
abbrev pub AllAtLeast : List Affine → List ℤ → Type 0
AllAtLeast [] point = ⊤
AllAtLeast (f ∷ fs) point = (pos 0 ≤ℤ value_of f point) × AllAtLeast fs point

-- the keys of some sets that begin with the given values
abbrev pub KeysAt : List Scanned → List ℤ → List ℤ → List ℤ → Type 0
KeysAt sets params outer r = Keys sets params (outer ++ r)

-- a sequence that k loops go down from visits what the sets have behind the outer values
pub record Serves (k : ℕ) (sets : List Scanned) (ts : Trees) (params outer : List ℤ) : Type 0 where
  pub covers : Covers (KeysAt sets params outer) ts params outer
  pub scans : ScansAll k (KeysAt sets params outer) ts params outer

-- sets of n dimensions
abbrev pub HaveDimensions : ℕ → List Scanned → Type 0
HaveDimensions n [] = ⊤
HaveDimensions n (s ∷ sets) = (s.system.dimensions ≡ n) × HaveDimensions n sets

-- the sets of leaves
abbrev pub sets_of : List Leaf → List Scanned
sets_of [] = []
sets_of (l ∷ ls) = l.set ∷ sets_of ls

-- the tests tell the set's points
abbrev pub AreTested : List Leaf → List ℤ → Type 0
AreTested [] point = ⊤
AreTested (l ∷ ls) point =
    (all_hold l.tests point ≡ true → Satisfies l.set.system point)
    × (Satisfies l.set.system point → all_hold l.tests point ≡ true) × AreTested ls point

-- rows that bound the variable at place m from below, and from above
abbrev pub AreLow : ℕ → List Affine → Type 0
AreLow m [] = ⊤
AreLow m (f ∷ fs) = (pos 0 <ℤ coefficient_of m f) × AreLow m fs

abbrev pub AreHigh : ℕ → List Affine → Type 0
AreHigh m [] = ⊤
AreHigh m (f ∷ fs) = (coefficient_of m f <ℤ pos 0) × AreHigh m fs

-- m outer values at which the context's rows hold
pub record IsPlace (m : ℕ) (context : List Affine) (params outer : List ℤ) : Type 0 where
  pub parameters : AreInRange params
  pub size : length outer ≡ m
  pub inside : AllAtLeast context (outer ++ params)

-- what a scanner's call answers: wherever its context holds, the sequence serves the sets
abbrev pub ServesOn : ℕ → ℕ → List Scanned → List Affine → Trees → Type 0
ServesOn k m sets context ts = (params outer : List ℤ) → IsPlace m context params outer → Serves k sets ts params outer

-- the context within a loop: the context without the loop's variable, and the loop's own rows
abbrev pub deeper : ℕ → List Affine → List Affine → List Affine
deeper m context rows = map (widened m) context ++ rows
