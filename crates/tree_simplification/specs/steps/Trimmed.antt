-- Trees without the tests and the parts of bounds that what stands round them implies.
use Rattle.std.specs.Prelude.{◌≡◌, ◌↔◌, ◌⊎◌, ℕ, ◌+◌, Bool, true, ℤ, List, [], ◌∷◌, ◌++◌, length}
use Rattle.scop_syntax.specs.Limits.{AreInRange}
use Rattle.scop_syntax.specs.Members.{In}
use Rattle.scop_syntax.specs.Tree.{Program}
use Rattle.loop_tree.specs.Fits.{FitsAll}
use Rattle.loop_tree.specs.Marks.{FlatAll}
use Rattle.loop_tree.specs.Plans.{AreFree, Conflict}
use Rattle.loop_tree.specs.Scans.{Within}
use Rattle.loop_tree.specs.Shape.{AreSerial, NestAllTo, TreesAreOf, TreesAreOver, TreesAreUpTo}
use Rattle.loop_tree.specs.Tree.{Bounds, Test, Tree, loop, guard, instance, Trees, none, more}
use Rattle.loop_tree.specs.Walk.{all_hold, walk_all}
use Rattle.tree_simplification.specs.steps.Context.{Context, Meets, NaturalAbove, NeverSpeaks, parts}
use Rattle.tree_simplification.specs.steps.Context.{entered, tested}
use Rattle.tree_simplification.specs.steps.Joined.{joined}

-- each of xs is one of ys
abbrev pub Among : {A : Type 0} → List A → List A → Type 0
Among {A} xs ys = (x : A) → In x xs → In x ys

-- trees under tests, of which there may be none
abbrev pub under : List Test → Trees → Trees
under [] ts = ts
under (test ∷ tests) ts = more (guard (test ∷ tests) ts) none

-- bounds with some of the parts, and wherever the context speaks with the same values between them
pub record TrimsBounds (c : Context) (lo up lower upper : Bounds) : Type 0 where
  pub lower_parts : Among (parts lower) (parts lo)
  pub upper_parts : Among (parts upper) (parts up)
  pub values : (params outer : List ℤ) → Meets c params outer → (x : ℤ)
      → Within lo up (outer ++ params) x ↔ Within lower upper (outer ++ params) x

-- some of the tests, which hold together wherever the context speaks as all do
pub record TrimsTests (c : Context) (tests kept : List Test) : Type 0 where
  pub parts : Among kept tests
  pub truth : (params outer : List ℤ) → Meets c params outer
      → all_hold tests (outer ++ params) ≡ all_hold kept (outer ++ params)

abbrev mutual
  -- the trees are what is left of the tree where the context speaks; nothing, where no instance within is visited
  pub Trims : Context → Tree → Trees → Type 0
  Trims c (loop flag lo up body) new =
      ((lower upper : Bounds) × (inner : Trees) × (natural : Bool) × (new ≡ more (loop flag lower upper inner) none)
      × TrimsBounds c lo up lower upper × (natural ≡ true → NaturalAbove c (parts lo))
      × TrimsAll (entered c (parts lo) (parts up) natural) body inner)
      ⊎ ((natural : Bool) × (new ≡ none) × (natural ≡ true → NaturalAbove c (parts lo))
      × TrimsAll (entered c (parts lo) (parts up) natural) body none)
  Trims c (guard tests body) new =
      ((kept : List Test) × (inner : Trees) × (new ≡ under kept inner) × TrimsTests c tests kept
      × TrimsAll (tested c tests) body inner)
      ⊎ ((new ≡ none) × TrimsAll (tested c tests) body none)
  Trims c (instance n forms) new = (new ≡ more (instance n forms) none) ⊎ ((new ≡ none) × NeverSpeaks c)

  -- they are what is left of trees, one after another
  pub TrimsAll : Context → Trees → Trees → Type 0
  TrimsAll c none new = new ≡ none
  TrimsAll c (more t ts) new =
      (front back : Trees) × (new ≡ joined front back) × Trims c t front × TrimsAll c ts back

-- the context is that within a loop
abbrev pub IsEntered : Context → Bounds → Bounds → Context → Type 0
IsEntered c lo up within =
    (natural : Bool) × (within ≡ entered c (parts lo) (parts up) natural) × (natural ≡ true → NaturalAbove c (parts lo))

-- the trees are flat and over the context's variables
pub record CanTrim (c : Context) (ts : Trees) : Type 0 where
  pub flat : FlatAll ts
  pub over : TreesAreOver (c.loops + c.parameters) ts

-- for parameters in 0..=65536 the new trees visit what the old ones visit, and what they are like stays
pub record IsTrimmed (parameters : ℕ) (old new : Trees) : Type 0 where
  pub walk : (params : List ℤ) → length params ≡ parameters → AreInRange params
      → walk_all new params [] ≡ walk_all old params []
  pub free : (program : Program) (params : List ℤ) → length params ≡ parameters → AreInRange params
      → AreFree (Conflict program params) old params [] → AreFree (Conflict program params) new params []
  pub fits : (params : List ℤ) → length params ≡ parameters → AreInRange params → FitsAll old params []
      → FitsAll new params []
  pub serial : AreSerial old → AreSerial new
  pub flat : FlatAll new
  pub statements : (program : Program) → TreesAreOf program old → TreesAreOf program new
  pub over : TreesAreOver parameters new
  pub small : (n : ℕ) → TreesAreUpTo n old → TreesAreUpTo n new
  pub nested : (n : ℕ) → NestAllTo n old → NestAllTo n new
