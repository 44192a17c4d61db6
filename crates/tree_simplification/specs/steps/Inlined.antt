-- Trees in which the loops that run once have given way to their values.
use Rattle.std.specs.Prelude.{◌≡◌, ℕ, ◌+◌, ◌^◌, ◌≤◌, Bool, true, false, ℤ, ◌*ℤ◌, not, List, [], ◌∷◌, ◌++◌, All}
use Rattle.std.specs.Prelude.{◌⊎◌, ◌≤ℤ◌, length, map, neg_ℤ, pos, ⊤}
use Rattle.whole_numbers.specs.Affine.{Affine, composed, multiple_of_form, sum_of_forms, values_of, widened}
use Rattle.scop_syntax.specs.Limits.{AreInRange}
use Rattle.scop_syntax.specs.Kernel.{AreAtMost}
use Rattle.scop_syntax.specs.Members.{In}
use Rattle.scop_syntax.specs.Tree.{Program}
use Rattle.iteration_domains.specs.Rows.{variable, variables}
use Rattle.loop_tree.specs.Fits.{FitsAll, form_in}
use Rattle.loop_tree.specs.Marks.{AreTests, FlatAll}
use Rattle.loop_tree.specs.Plans.{AreFree, Conflict}
use Rattle.loop_tree.specs.Scans.{Within}
use Rattle.loop_tree.specs.Shape.{AreSerial, BoundsAreUpTo, IsOver, NestAllTo, TestIsUpTo, TreesAreOf, TreesAreOver}
use Rattle.loop_tree.specs.Shape.{TreesAreUpTo}
use Rattle.loop_tree.specs.Tree.{Bound, Bounds, only, besides, Test, at_least, equal, multiple, Tree, loop, guard}
use Rattle.loop_tree.specs.Tree.{instance, Trees, none, more}
use Rattle.loop_tree.specs.View.{test_of}
use Rattle.loop_tree.specs.Walk.{all_hold, holds, lower, upper, walk_all}
use Rattle.loop_tree.specs.declared.tree.Test.{Test as CodeTest}
use Rattle.tree_simplification.specs.Simplified.{shown, shows}
use Rattle.tree_simplification.specs.steps.Context.{parts, sign_of}
use Rattle.tree_simplification.specs.steps.Joined.{joined}
use Rattle.tree_simplification.specs.steps.Rounded.{rounded, rounded_test}

abbrev mutual
  -- each loop of the walk starts and ends within n
  pub StaysWithin : ℕ → Tree → List ℤ → List ℤ → Type 0
  StaysWithin n (loop flag lo up body) params outer =
      (neg_ℤ (pos n) ≤ℤ lower lo (outer ++ params)) × (upper up (outer ++ params) ≤ℤ pos n)
      × ((x : ℤ) → Within lo up (outer ++ params) x → StayWithin n body params (outer ++ x ∷ []))
  StaysWithin n (guard tests body) params outer =
      all_hold tests (outer ++ params) ≡ true → StayWithin n body params outer
  StaysWithin n (instance k forms) params outer = ⊤

  -- so it is in each of these trees
  pub StayWithin : ℕ → Trees → List ℤ → List ℤ → Type 0
  StayWithin n none params outer = ⊤
  StayWithin n (more t ts) params outer = StaysWithin n t params outer × StayWithin n ts params outer

-- for all parameters the new trees show what the old ones show, and iterations of parallel loops that were free of
-- conflicts are so; the numbers fit for parameters in 0..=65536 for which the old loops start and end within 2^40
pub record IsInlined (parameters : ℕ) (old new : Trees) : Type 0 where
  pub alike : (params : List ℤ) → length params ≡ parameters → shows new params ≡ shows old params
  pub free : (program : Program) (params : List ℤ) → length params ≡ parameters
      → AreFree (Conflict program params) old params [] → AreFree (Conflict program params) new params []
  pub fits : (params : List ℤ) → length params ≡ parameters → AreInRange params → StayWithin (2 ^ 40) old params []
      → FitsAll new params []
  pub serial : AreSerial old → AreSerial new
  pub flat : FlatAll old → FlatAll new
  pub statements : (program : Program) → TreesAreOf program old → TreesAreOf program new
  pub over : TreesAreOver parameters new
  pub small : TreesAreUpTo (2 ^ 45) new
  pub nested : (n : ℕ) → NestAllTo n old → NestAllTo n new

-- few small values of loops and parameters, also with d loops more
pub record AreNear (d : ℕ) (params outer : List ℤ) : Type 0 where
  pub few_parameters : length params ≤ 2 ^ 32
  pub few_loops : length outer + d ≤ 2 ^ 32
  pub small_parameters : AreAtMost (2 ^ 16) params
  pub small_values : AreAtMost (2 ^ 40) outer

-- the same within loops: new loops, so many, stand round the new trees, and over them and the parameters the forms give
-- the values of the old loops round the old trees
pub record Inlines (parameters kept : ℕ) (loops : List Affine) (old new : Trees) : Type 0 where
  pub alike : (params outer : List ℤ) → length params ≡ parameters → length outer ≡ kept
      → map shown (walk_all new params outer) ≡ map shown (walk_all old params (values_of loops (outer ++ params)))
  pub free : (program : Program) (params outer : List ℤ) → length params ≡ parameters → length outer ≡ kept
      → AreFree (Conflict program params) old params (values_of loops (outer ++ params))
      → AreFree (Conflict program params) new params outer
  pub fits : (d : ℕ) (params outer : List ℤ) → length params ≡ parameters → length outer ≡ kept → NestAllTo d old
      → AreNear d params outer → StayWithin (2 ^ 40) old params (values_of loops (outer ++ params))
      → FitsAll new params outer
  pub serial : AreSerial old → AreSerial new
  pub flat : FlatAll old → FlatAll new
  pub statements : (program : Program) → TreesAreOf program old → TreesAreOf program new
  pub over : TreesAreOver (kept + parameters) new
  pub small : TreesAreUpTo (2 ^ 45) new
  pub nested : (n m : ℕ) → n ≤ m → NestAllTo n old → NestAllTo m new

-- forms over the new loops and the parameters: one for each old loop, and then the parameters
pub record IsPlace (parameters kept : ℕ) (loops forms : List Affine) : Type 0 where
  pub are : forms ≡ loops ++ variables (kept + parameters) kept parameters
  pub sized : All (IsOver (kept + parameters)) loops

-- the forms of the old loops within a loop that stays, behind k others
abbrev pub inside : ℕ → ℕ → List Affine → List Affine
inside parameters k loops = map (widened k) loops ++ variable (k + 1 + parameters) k ∷ []

-- a lower bound (true) or an upper one over n variables, where the forms stand for its variables
abbrev pub bound_over : Bool → ℕ → List Affine → Bound → Bound
bound_over up n forms b = rounded up (record { form = composed b.form forms n; divisor = b.divisor })

-- so are bounds
abbrev pub bounds_over : Bool → ℕ → List Affine → Bounds → Bounds
bounds_over up n forms (only b) = only (bound_over up n forms b)
bounds_over up n forms (besides b bs) = besides (bound_over up n forms b) (bounds_over up n forms bs)

-- a test
abbrev pub test_over : ℕ → List Affine → Test → Test
test_over n forms (at_least f) = rounded_test (at_least (composed f forms n))
test_over n forms (equal f) = rounded_test (equal (composed f forms n))
test_over n forms (multiple f d) = multiple (composed f forms n) d

-- tests over n variables that hold where these do
pub record AreTestsOf (n : ℕ) (old new : List Test) : Type 0 where
  pub same : (point : List ℤ) → all_hold new point ≡ all_hold old point
  pub over : All (λ test. IsOver n (form_in test)) new
  pub small : All (TestIsUpTo (2 ^ 45)) new
  pub flat : AreTests old → AreTests new

-- where the old ones do, the forms standing for their variables
abbrev pub AreTestsFor : ℕ → List Affine → List Test → List Test → Type 0
AreTestsFor n forms old new = AreTestsOf n (map (test_over n forms) old) new

-- the bound that is one form
abbrev pub whole : Affine → Bound
whole f = record { form = f; divisor = pos 1 }

-- what is at least 0 where f is at least a lower bound (turned), or at most an upper one
abbrev pub side_form : Bool → Affine → Bound → Affine
side_form turned f b =
    sum_of_forms (multiple_of_form (sign_of turned *ℤ pos 1) b.form)
    (multiple_of_form (sign_of (not turned) *ℤ b.divisor) f)

-- the tests whether f is so of several
abbrev pub side_tests : Bool → Affine → List Bound → List Test
side_tests turned f bs = map (λ b. rounded_test (at_least (side_form turned f b))) bs

-- a form over n variables that is one of the bounds of both sides, and tests whether it lies between all
pub record IsOnceIn (n : ℕ) (f : Affine) (lows ups : List Bound) (tests : List Test) : Type 0 where
  pub over : IsOver n f
  pub low : In (whole f) lows
  pub high : In (whole f) ups
  pub between : AreTestsOf n (side_tests true f lows ++ side_tests false f ups) tests

abbrev pub IsOnce : ℕ → Affine → Bounds → Bounds → List Test → Type 0
IsOnce n f lo up tests = IsOnceIn n f (parts lo) (parts up) tests

-- the tests and one more behind them, or only they, where that one holds everywhere
abbrev pub AreWith : List CodeTest → CodeTest → List CodeTest → Type 0
AreWith old test new = (new ≡ old ++ test ∷ []) ⊎ ((new ≡ old) × ((point : List ℤ) → holds (test_of test) point ≡ true))

-- what the code asks of trees: few loops and parameters, forms over the loops round them, and small numbers
pub record CanInline (parameters kept : ℕ) (loops forms : List Affine) (ts : Trees) : Type 0 where
  pub place : IsPlace parameters kept loops forms
  pub few : parameters ≤ 2 ^ 32
  pub deep : (d : ℕ) × (kept + d ≤ 2 ^ 32) × NestAllTo d ts
  pub flat : FlatAll ts
  pub over : TreesAreOver (length loops + parameters) ts
  pub small : TreesAreUpTo (2 ^ 40) ts

-- what it asks of a loop that stays, with these new bounds
pub record CanKeep (parameters kept : ℕ) (loops forms : List Affine) (lo up low high : Bounds) (old : Trees)
    : Type 0 where
  pub can : CanInline parameters kept loops forms old
  pub lower : low ≡ bounds_over true (kept + parameters) forms lo
  pub upper : high ≡ bounds_over false (kept + parameters) forms up
  pub small_low : BoundsAreUpTo (2 ^ 45) low
  pub small_high : BoundsAreUpTo (2 ^ 45) high

-- behind the trees there were stand those that the old ones gave way to
abbrev pub Extends : ℕ → ℕ → List Affine → Trees → Trees → Trees → Type 0
Extends parameters kept loops old before after =
    (new : Trees) × (after ≡ joined before new) × Inlines parameters kept loops old new
