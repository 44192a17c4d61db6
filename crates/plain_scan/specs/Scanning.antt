-- What a scan asks of its sets, what its trees are, and why it stops.
use Rattle.std.specs.Prelude.{◌≡◌, ℕ, zero, ◌+◌, ◌<◌, ◌≤◌, ◌^◌, ℤ, List, [], ◌∷◌, length, Option, None, All, ⊤}
use Rattle.integer_sets.specs.Scanned.{Scanned, iterators_at}
use Rattle.scop_syntax.specs.Members.{In}
use Rattle.fm_projection.specs.declared.stop.FmStop.{FmStop}
use Rattle.fm_projection.specs.declared.stop.FmStop.TheVariants as fm
use Rattle.fm_projection.specs.Alone.{IsBounded}
use Rattle.scop_syntax.specs.Limits.{AreInRange}
use Rattle.loop_tree.specs.Fits.{AreSmallTrees, FitsAll}
use Rattle.loop_tree.specs.Marks.{FlatAll, MarksAll}
use Rattle.loop_tree.specs.Scans.{Exact}
use Rattle.loop_tree.specs.Shape.{NestAllTo, TreesAreOver, TreesAreUpTo}
use Rattle.loop_tree.specs.Tree.{Tree, loop, guard, instance, Trees, none, more}
use Rattle.loop_tree.specs.Walk.{Visit, walk_all}
use Rattle.plain_scan.specs.Outlines.{StopsSet}
use Rattle.plain_scan.specs.Sets.{Keys}
use Rattle.std.specs.Option.{option_eq}
use Rattle.std.specs.Prelude.{suc, eqb, Some, Bool}

-- how many dimensions sets have, whose number is that of the first
abbrev pub dimensions_of : List Scanned → ℕ
dimensions_of [] = 0
dimensions_of (s ∷ sets) = s.system.dimensions

-- how many parameters
abbrev pub parameters_of : List Scanned → ℕ
parameters_of [] = 0
parameters_of (s ∷ sets) = s.system.parameters

-- the dimension that they mark
abbrev pub mark_of : List Scanned → Option ℕ
mark_of [] = None
mark_of (s ∷ sets) = s.parallel

-- a set of n dimensions and p parameters, not too many, that marks one place and is bounded
pub record IsScanned (n p : ℕ) (mark : Option ℕ) (s : Scanned) : Type 0 where
  pub dimensions : s.system.dimensions ≡ n
  pub parameters : s.system.parameters ≡ p
  pub few : n + p < 2 ^ 32
  pub marks : s.parallel ≡ mark
  pub iterators : s.first + s.iterators ≤ s.system.dimensions
  pub bounded : IsBounded s.system

-- sets of one shape that mark one place, and are bounded
abbrev pub AreScanned : List Scanned → Type 0
AreScanned sets = All (IsScanned (dimensions_of sets) (parameters_of sets) (mark_of sets)) sets

-- each visit is one of the statement of a set, and gives the iterators of its point
abbrev pub GiveIterators : List Scanned → List Visit → Type 0
GiveIterators sets visits =
    (v : Visit) → In v visits
    → (s : Scanned) × In s sets × (s.statement ≡ v.number) × (v.turns ≡ iterators_at s v.values)

abbrev mutual
  -- each instance is one of a set's statement, with a form for each of its iterators
  pub IsOfSets : List Scanned → Tree → Type 0
  IsOfSets sets (loop flag lo up body) = AreOfSets sets body
  IsOfSets sets (guard tests body) = AreOfSets sets body
  IsOfSets sets (instance n forms) =
      (s : Scanned) × In s sets × (s.statement ≡ n) × (length forms ≡ s.iterators)

  -- so it is in each of these trees
  pub AreOfSets : List Scanned → Trees → Type 0
  AreOfSets sets none = ⊤
  AreOfSets sets (more t ts) = IsOfSets sets t × AreOfSets sets ts

-- whether each of so many dimensions, from a place on, is the parallel one
abbrev pub flags : Option ℕ → ℕ → ℕ → List Bool
flags parallel place zero = []
flags parallel place (suc n) = option_eq eqb parallel (Some place) ∷ flags parallel (suc place) n

-- trees that scan sets: for parameters in range they visit exactly the keys, in order, give the iterators, and their
-- numbers fit; the numbers are small, the forms over the parameters and the loops round, which are one a dimension at
-- most; instances are those of the sets; they are flat, and parallel at the mark; of no set they are none
pub record IsScan (sets : List Scanned) (ts : Trees) : Type 0 where
  pub exact : (params : List ℤ) → AreInRange params → Exact (Keys sets params) (walk_all ts params [])
  pub iterators : (params : List ℤ) → AreInRange params → GiveIterators sets (walk_all ts params [])
  pub fits : (params : List ℤ) → AreInRange params → length params ≡ parameters_of sets → FitsAll ts params []
  pub small : TreesAreUpTo (2 ^ 40) ts
  pub numbers : AreSmallTrees (dimensions_of sets) ts
  pub over : TreesAreOver (parameters_of sets) ts
  pub nested : NestAllTo (dimensions_of sets) ts
  pub instances : AreOfSets sets ts
  pub flat : FlatAll ts
  pub marks : MarksAll (flags (mark_of sets) zero (dimensions_of sets)) ts
  pub empty : sets ≡ [] → ts ≡ none

-- one of the sets stops so; want of memory is free
abbrev pub StopsScan : List Scanned → FmStop → Type 0
StopsScan sets (fm.Wide w) = (s : Scanned) × In s sets × StopsSet s.system (fm.Wide w)
StopsScan sets (fm.Crowded pairs) = (s : Scanned) × In s sets × StopsSet s.system (fm.Crowded pairs)
StopsScan sets (fm.Large number) = (s : Scanned) × In s sets × StopsSet s.system (fm.Large number)
StopsScan sets fm.NoMemory = ⊤
