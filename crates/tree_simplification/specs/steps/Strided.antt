-- A loop whose turns are taken so many at once: one over blocks of values, and in it the body for each value.
use Rattle.std.specs.Prelude.{◌≡◌, ℕ, ◌+◌, ◌^◌, ◌≤◌, Bool, true, false, ℤ, pos, ◌-ℤ◌, ◌*ℤ◌, List, [], ◌∷◌, ◌++◌}
use Rattle.std.specs.Prelude.{All, map, length, set, if◌then◌else◌}
use Rattle.std.specs.Int.Signed.{le_z}
use Rattle.whole_numbers.specs.Affine.{Affine, form_of, value_of, values_of}
use Rattle.whole_numbers.specs.Lists.{zeros}
use Rattle.scop_syntax.specs.Tree.{Program}
use Rattle.iteration_domains.specs.Rows.{variables}
use Rattle.loop_tree.specs.Fits.{FitsAll}
use Rattle.loop_tree.specs.Marks.{AreBounds, FlatAll}
use Rattle.loop_tree.specs.Plans.{AreFree, Conflict}
use Rattle.loop_tree.specs.Scans.{Within}
use Rattle.loop_tree.specs.Shape.{AreSerial, BoundsAreOver, BoundsAreUpTo, IsOver, NestAllTo, TreesAreOf}
use Rattle.loop_tree.specs.Shape.{TreesAreOver, TreesAreUpTo}
use Rattle.loop_tree.specs.Tree.{Bound, Bounds, only, besides, Test, Trees}
use Rattle.loop_tree.specs.Walk.{lower, upper, walk_all}
use Rattle.tree_simplification.specs.Simplified.{shown}
use Rattle.tree_simplification.specs.steps.Context.{parts}
use Rattle.tree_simplification.specs.steps.Inlined.{AreNear, AreTestsOf, CanInline, IsPlace, StayWithin, bounds_over}
use Rattle.tree_simplification.specs.steps.Inlined.{side_tests}
use Rattle.tree_simplification.specs.steps.Joined.{joined}

-- a part of a loop's bounds, of the loop over blocks of so many values whose value at a place lies within it
abbrev pub block : ℕ → ℕ → Bound → Bound
block by at b =
    record {
      form = form_of b.form.coefficients (b.form.constant -ℤ (b.divisor *ℤ pos at));
      divisor = b.divisor *ℤ pos by;
    }

-- so are bounds
abbrev pub blocks : ℕ → ℕ → Bounds → Bounds
blocks by at (only b) = only (block by at b)
blocks by at (besides b bs) = besides (block by at b) (blocks by at bs)

-- the value at a place of a block of so many, where the block's number is the variable k of n
abbrev pub turn_form : ℕ → ℕ → ℕ → ℕ → Affine
turn_form n k by at = form_of (set (zeros n) k (pos by)) (pos at)

-- what the code asks of a loop's bounds, where forms over n variables stand for theirs
pub record CanBound (n : ℕ) (forms : List Affine) (lo up : Bounds) : Type 0 where
  pub low : BoundsAreOver (length forms) lo
  pub high : BoundsAreOver (length forms) up
  pub low_numbers : BoundsAreUpTo (2 ^ 40) lo
  pub high_numbers : BoundsAreUpTo (2 ^ 40) up
  pub sized : All (IsOver n) forms

-- the bounds over those
pub record AreEnds (n : ℕ) (forms : List Affine) (lo up low high : Bounds) : Type 0 where
  pub lower : low ≡ bounds_over true n forms lo
  pub upper : high ≡ bounds_over false n forms up
  pub small_low : BoundsAreUpTo (2 ^ 45) low
  pub small_high : BoundsAreUpTo (2 ^ 45) high

-- tests whether a form lies between a loop's bounds
abbrev pub AreTestsAt : ℕ → List Affine → Bounds → Bounds → Affine → List Test → Type 0
AreTestsAt n forms lo up f tests =
    AreTestsOf n
    (side_tests true f (parts (bounds_over true n forms lo))
    ++ side_tests false f (parts (bounds_over false n forms up)))
    tests

-- x lies between two numbers
abbrev pub lies : ℤ → ℤ → ℤ → Bool
lies first last x = if le_z first x then le_z x last else false

-- what a loop's body gives at x, if x lies between its first and its last value
abbrev pub masked : {A : Type 0} → ℤ → ℤ → (ℤ → List A) → ℤ → List A
masked first last body x = if lies first last x then body x else []

-- the new trees are those of a loop's body at the one value that a form gives, if it lies between the loop's bounds
pub record InlinesAt (parameters kept : ℕ) (loops : List Affine) (lo up : Bounds) (f : Affine) (body new : Trees)
    : Type 0 where
  pub alike : (params outer : List ℤ) → length params ≡ parameters → length outer ≡ kept
      → map shown (walk_all new params outer)
      ≡ masked (lower lo (values_of loops (outer ++ params) ++ params))
      (upper up (values_of loops (outer ++ params) ++ params))
      (λ x. map shown (walk_all body params (values_of loops (outer ++ params) ++ x ∷ [])))
      (value_of f (outer ++ params))
  pub free : (program : Program) (params outer : List ℤ) → length params ≡ parameters → length outer ≡ kept
      → (Within lo up (values_of loops (outer ++ params) ++ params) (value_of f (outer ++ params))
      → AreFree (Conflict program params) body params
      (values_of loops (outer ++ params) ++ value_of f (outer ++ params) ∷ []))
      → AreFree (Conflict program params) new params outer
  pub fits : (d : ℕ) (params outer : List ℤ) → length params ≡ parameters → length outer ≡ kept → NestAllTo d body
      → AreNear d params outer
      → (Within lo up (values_of loops (outer ++ params) ++ params) (value_of f (outer ++ params))
      → StayWithin (2 ^ 40) body params (values_of loops (outer ++ params) ++ value_of f (outer ++ params) ∷ []))
      → FitsAll new params outer
  pub serial : AreSerial body → AreSerial new
  pub flat : FlatAll body → FlatAll new
  pub statements : (program : Program) → TreesAreOf program body → TreesAreOf program new
  pub over : TreesAreOver (kept + parameters) new
  pub small : TreesAreUpTo (2 ^ 45) new
  pub nested : (n m : ℕ) → n ≤ m → NestAllTo n body → NestAllTo m new

-- what the code asks for that, with tests whether the form lies between the bounds
pub record CanGoAt (parameters kept : ℕ) (loops forms : List Affine) (lo up : Bounds) (f : Affine) (tests : List Test)
    (body : Trees) : Type 0 where
  pub place : IsPlace parameters kept loops forms
  pub few : kept + parameters ≤ 2 ^ 34
  pub over : IsOver (kept + parameters) f
  pub flat_low : AreBounds lo
  pub flat_high : AreBounds up
  pub between : AreTestsAt (kept + parameters) forms lo up f tests
  pub within : (others : List Affine) → others ≡ (loops ++ f ∷ []) ++ variables (kept + parameters) kept parameters
      → CanInline parameters kept (loops ++ f ∷ []) others body

-- what the code asks of a loop whose turns are taken so many at once
pub record CanStride (parameters kept : ℕ) (loops forms : List Affine) (flag : Bool) (turns : ℕ) (old : Trees)
    : Type 0 where
  pub can : CanInline parameters kept loops forms old
  pub serial : flag ≡ false
  pub some : 1 ≤ turns
  pub few : turns ≤ 4

-- behind the trees there were stand those of the body at one value
abbrev pub ExtendsAt : ℕ → ℕ → List Affine → Bounds → Bounds → Affine → Trees → Trees → Trees → Type 0
ExtendsAt parameters kept loops lo up f body before after =
    (new : Trees) × (after ≡ joined before new) × InlinesAt parameters kept loops lo up f body new
