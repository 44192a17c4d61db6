-- Rows that hold at each point of each of several sets.
use Rattle.std.specs.Prelude.{◌≡◌, ℕ, ◌<◌, ◌+◌, ℤ, pos, negsuc, List, [], ◌∷◌, length, All}
use Rattle.whole_numbers.specs.Affine.{Affine}
use Rattle.affine_forms.specs.Parts.{variables_of}
use Rattle.integer_sets.specs.Constraints.{variables_in}
use Rattle.integer_sets.specs.Scanned.{Scanned}
use Rattle.fm_projection.specs.Alone.{place_form}
use Rattle.plain_scan.specs.Between.{HasSmallNumbers}
use Rattle.plain_scan.specs.Outlines.{HoldsBefore}
use Rattle.loop_tree.specs.Tree.{Tree, instance}
use Rattle.plain_scan.specs.declared.set_outline.Outline.{Outline}
use Rattle.plain_scan.specs.Sets.{Leaf, tests_of, turn_forms, under}

-- the set has more dimensions than so many, and n variables without these
pub record IsAlike (depth n : ℕ) (o : Outline) : Type 0 where
  pub inside : depth < length o.shadows.items
  pub count : variables_in o.set.now.system ≡ n + depth

-- the row is at least 0 at each key of the set, for parameters in range
abbrev pub HoldsAt : ℕ → Affine → Outline → Type 0
HoldsAt depth f o = HoldsBefore depth o.set.now f

-- a row over n variables that holds at each of the sets' projections
pub record IsHullRow (depth n : ℕ) (outlines : List Outline) (f : Affine) : Type 0 where
  pub sized : variables_of f ≡ n
  pub small : HasSmallNumbers f
  pub holds : All (HoldsAt depth f) outlines

-- such rows
abbrev pub AreHullRows : ℕ → ℕ → List Outline → List Affine → Type 0
AreHullRows depth n outlines fs = All (IsHullRow depth n outlines) fs

-- the hull's rows, its two numbers first
pub record IsHull (depth place n : ℕ) (outlines : List Outline) (fs : List Affine) : Type 0 where
  pub low : ℤ
  pub high : ℤ
  pub others : List Affine
  pub is : fs ≡ place_form n place (pos 1) low ∷ place_form n place (negsuc 0) high ∷ others
  pub rows : AreHullRows depth n outlines fs

-- the sets of outlines
abbrev pub sets_in : List Outline → List Scanned
sets_in [] = []
sets_in (o ∷ os) = o.set.now ∷ sets_in os

-- a set behind the last loop, under all its constraints
abbrev pub own_leaf : Scanned → Leaf
own_leaf s = record { set = s; tests = tests_of s; turns = turn_forms s }

-- its tree
abbrev pub leaf_tree : Scanned → Tree
leaf_tree s = under (tests_of s) (instance s.statement (turn_forms s))
