-- Every number that the text of a tree makes on the way fits, in the order of the text: of its bounds, tests, constants
-- and subscripts, and of what its assignments convert.
use Rattle.std.specs.Prelude.{◌+◌, ◌<◌, ◌^◌, ℤ, pos, ◌+ℤ◌, ◌-ℤ◌, ◌*ℤ◌, List, [], ◌∷◌, ◌++◌, ⊤, unsigned_abs, ◌≡◌, true}
use Rattle.std.specs.Prelude.{length, slice_get, Option, Some, None}
use Rattle.whole_numbers.specs.Affine.{Affine, form_of, value_of}
use Rattle.scop_syntax.specs.Standings.{Standing, standings_of}
use Rattle.scop_syntax.specs.Tree.{Expression, Head, Program, Right, Statement}
use Rattle.scop_syntax.specs.Tree as scop
use Rattle.loop_tree.specs.Tree.{Bound, Bounds, only, besides, Test, at_least, equal, multiple, Tree, loop, guard}
use Rattle.loop_tree.specs.Tree.{instance, Trees, none, more}
use Rattle.loop_tree.specs.Scans.{Within}
use Rattle.c_printer.specs.Iterators.{given_value, given_values}
use Rattle.loop_tree.specs.Walk.{holds, all_hold, lower, upper}
use Rattle.c_printer.specs.Forms.{turned, spread, iterator_form}

-- int64_t holds a number and its opposite
abbrev pub Fits : ℤ → Type 0
Fits z = unsigned_abs z < 2 ^ 63

-- each numeral, each product and each sum of terms, from a first sum on, then the constant
abbrev pub SumsFit : ℤ → List ℤ → List ℤ → ℤ → Type 0
SumsFit s [] ys z = Fits z × Fits (s +ℤ z)
SumsFit s (c ∷ cs) [] z = Fits z × Fits (s +ℤ z)
SumsFit s (c ∷ cs) (y ∷ ys) z =
    Fits c × Fits (c *ℤ y) × Fits (s +ℤ (c *ℤ y)) × SumsFit (s +ℤ (c *ℤ y)) cs ys z

-- those of a form, where the names have these values
abbrev pub FormFits : Affine → List ℤ → Type 0
FormFits form point = SumsFit (pos 0) form.coefficients point form.constant

-- those of a form of the tree within loops of these values
abbrev pub TreeFormFits : Affine → List ℤ → List ℤ → Type 0
TreeFormFits form params outer =
    FormFits (form_of (turned (length outer) form.coefficients) form.constant) (params ++ outer)

-- a quotient: its divisor, and the least and the greatest number that the functions form of a value of this size
abbrev pub QuotientFits : ℤ → ℤ → Type 0
QuotientFits z d = unsigned_abs z + unsigned_abs d < 2 ^ 63

-- those of a bound
pub record BoundFits (b : Bound) (params outer : List ℤ) : Type 0 where
  pub form : TreeFormFits b.form params outer
  pub quotient : QuotientFits (value_of b.form (outer ++ params)) b.divisor

-- those of bounds
abbrev pub BoundsFit : Bounds → List ℤ → List ℤ → Type 0
BoundsFit (only b) params outer = BoundFits b params outer
BoundsFit (besides b bs) params outer = BoundFits b params outer × BoundsFit bs params outer

-- those of a test
abbrev pub TestFits : Test → List ℤ → List ℤ → Type 0
TestFits (at_least form) params outer = TreeFormFits form params outer
TestFits (equal form) params outer = TreeFormFits form params outer
TestFits (multiple form d) params outer =
    TreeFormFits form params outer × QuotientFits (value_of form (outer ++ params)) d

-- those of tests, from left to right, as far as they are evaluated
abbrev pub TestsFit : List Test → List ℤ → List ℤ → Type 0
TestsFit [] params outer = ⊤
TestsFit (test ∷ tests) params outer =
    TestFits test params outer × (holds test (outer ++ params) ≡ true → TestsFit tests params outer)

-- those of the constants of an instance, each over those before it
abbrev pub GivensFit : List ℤ → List ℤ → List ℤ → List Head → List Affine → Type 0
GivensFit params outer before [] turns = ⊤
GivensFit params outer before (head ∷ heads) [] = ⊤
GivensFit params outer before (head ∷ heads) (turn ∷ turns) =
    FormFits (iterator_form (length params) (length outer) head turn) (params ++ (outer ++ before))
    × GivensFit params outer (before ++ given_value params outer before head turn ∷ []) heads turns

-- those of a form of the source, over the parameters and the constants
abbrev pub SourceFormFits : List ℤ → List ℤ → List ℤ → Affine → Type 0
SourceFormFits params outer given form =
    FormFits (form_of (spread (length params) (length outer) form.coefficients) form.constant)
    (params ++ (outer ++ given))

-- those of subscripts
abbrev pub SubscriptsFit : List ℤ → List ℤ → List ℤ → List Affine → Type 0
SubscriptsFit params outer given [] = ⊤
SubscriptsFit params outer given (form ∷ forms) =
    SourceFormFits params outer given form × SubscriptsFit params outer given forms

-- those of a value
abbrev pub ValueFits : List ℤ → List ℤ → List ℤ → Expression → Type 0
ValueFits params outer given (scop.read access) = SubscriptsFit params outer given access.subscripts
ValueFits params outer given (scop.constant c) = ⊤
ValueFits params outer given (scop.affine form) = SourceFormFits params outer given form
ValueFits params outer given (scop.negated e) = ValueFits params outer given e
ValueFits params outer given (scop.complemented e) = ValueFits params outer given e
ValueFits params outer given (scop.cast e) = ValueFits params outer given e
ValueFits params outer given (scop.binary op e f) = ValueFits params outer given e × ValueFits params outer given f
ValueFits params outer given (scop.shifted_left e k) = ValueFits params outer given e
ValueFits params outer given (scop.shifted_right e k) = ValueFits params outer given e
ValueFits params outer given (scop.narrowed w e) = ValueFits params outer given e

-- those of what stands behind a place
abbrev pub RightFits : List ℤ → List ℤ → List ℤ → Right → Type 0
RightFits params outer given (scop.assigned e) = ValueFits params outer given e
RightFits params outer given (scop.combined op e) = ValueFits params outer given e
RightFits params outer given (scop.combined_narrow op e) = ValueFits params outer given e
RightFits params outer given _ = ⊤

-- those of a statement
pub record StatementFits (params outer given : List ℤ) (s : Statement) : Type 0 where
  pub place : SubscriptsFit params outer given s.place.subscripts
  pub right : RightFits params outer given s.right

-- those of an instance, if it has a statement
abbrev pub InstanceFits : List ℤ → List ℤ → Option Standing → List Affine → Type 0
InstanceFits params outer None turns = ⊤
InstanceFits params outer (Some s) turns =
    GivensFit params outer [] s.heads turns
    × StatementFits params outer (given_values params outer [] s.heads turns) s.body

-- those of the count of a parallel loop's iterations
abbrev pub CountFits : ℤ → ℤ → Type 0
CountFits x y = Fits (y +ℤ pos 1) × Fits (y -ℤ x) × Fits ((y -ℤ x) +ℤ pos 1)

abbrev mutual
  -- each number that a tree's text makes within loops of these values, the increments of its loops among them
  pub IsNarrow : Program → Tree → List ℤ → List ℤ → Type 0
  IsNarrow program (loop flag lo up body) params outer =
      BoundsFit lo params outer × BoundsFit up params outer
      × (flag ≡ true → CountFits (lower lo (outer ++ params)) (upper up (outer ++ params)))
      × ((x : ℤ) → Within lo up (outer ++ params) x
      → Fits (x +ℤ pos 1) × AreNarrow program body params (outer ++ x ∷ []))
  IsNarrow program (guard tests body) params outer =
      TestsFit tests params outer × (all_hold tests (outer ++ params) ≡ true → AreNarrow program body params outer)
  IsNarrow program (instance n turns) params outer =
      InstanceFits params outer (slice_get (standings_of program) n) turns

  -- those of trees
  pub AreNarrow : Program → Trees → List ℤ → List ℤ → Type 0
  AreNarrow program none params outer = ⊤
  AreNarrow program (more t ts) params outer = IsNarrow program t params outer × AreNarrow program ts params outer
