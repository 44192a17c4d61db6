-- The numbers that a run forms, and when they lie in the range of 64 bit integers.
use Rattle.std.specs.Prelude.{◌≡◌, true, ℕ, ◌<◌, ℤ, pos, ◌+ℤ◌, ◌*ℤ◌, ◌≤ℤ◌, List, All, FitsSigned, ⊤}
use Rattle.std.specs.Int.{w64}
use Rattle.whole_numbers.specs.Affine.{value_of}
use Rattle.scop_syntax.specs.Tree.{Access, Expression, read, constant, affine, negated, complemented, cast, binary}
use Rattle.scop_syntax.specs.Tree.{shifted_left, shifted_right, narrowed, Right, assigned, combined, moved_left}
use Rattle.scop_syntax.specs.Tree.{moved_right, combined_narrow, moved_left_narrow, Statement, Test, Head, Tree, loop}
use Rattle.scop_syntax.specs.Tree.{guard, statement, Trees, none, more}
use Rattle.scop_syntax.specs.Walk.{all_hold, turn_point, condition_at}
use Rattle.scop_syntax.specs.Kernel.{test_form}

-- a loop comes to turn k: its condition holds at every turn before
abbrev pub IsReached : Head → List ℤ → ℕ → Type 0
IsReached head point k = (j : ℕ) → j < k → pos 0 ≤ℤ condition_at head point (pos j)

-- the iterator and the condition at turn k
pub record TurnFits (head : Head) (point : List ℤ) (k : ℕ) : Type 0 where
  pub iterator : FitsSigned w64 (value_of head.first point +ℤ (head.stride *ℤ pos k))
  pub condition : FitsSigned w64 (condition_at head point (pos k))

-- the forms of a guard's comparisons
abbrev pub TestsFit : List Test → List ℤ → Type 0
TestsFit tests point = All (λ test. FitsSigned w64 (value_of (test_form test) point)) tests

-- the subscripts of an access
abbrev pub AccessFits : Access → List ℤ → Type 0
AccessFits access point = All (λ form. FitsSigned w64 (value_of form point)) access.subscripts

-- the affine parts and the subscripts of an expression
abbrev pub ExpressionFits : Expression → List ℤ → Type 0
ExpressionFits (read access) point = AccessFits access point
ExpressionFits (constant c) point = ⊤
ExpressionFits (affine form) point = FitsSigned w64 (value_of form point)
ExpressionFits (negated e) point = ExpressionFits e point
ExpressionFits (complemented e) point = ExpressionFits e point
ExpressionFits (cast e) point = ExpressionFits e point
ExpressionFits (binary op e f) point = ExpressionFits e point × ExpressionFits f point
ExpressionFits (shifted_left e k) point = ExpressionFits e point
ExpressionFits (shifted_right e k) point = ExpressionFits e point
ExpressionFits (narrowed w e) point = ExpressionFits e point

-- the affine parts and the subscripts on the right of a place
abbrev pub RightFits : Right → List ℤ → Type 0
RightFits (assigned e) point = ExpressionFits e point
RightFits (combined op e) point = ExpressionFits e point
RightFits (moved_left k) point = ⊤
RightFits (moved_right k) point = ⊤
RightFits (combined_narrow op e) point = ExpressionFits e point
RightFits (moved_left_narrow k) point = ⊤

-- the subscripts of a statement's place, and what stands on its right
abbrev pub StatementFits : Statement → List ℤ → Type 0
StatementFits s point = AccessFits s.place point × RightFits s.right point

-- the iterators and conditions of every turn to which a loop comes, the one that ends it included, and the forms of
-- guards and statements
abbrev mutual
  -- those of a tree at a point
  pub Fits : Tree → List ℤ → Type 0
  Fits (loop head body) point =
      (k : ℕ) → IsReached head point k
      → TurnFits head point k
      × (pos 0 ≤ℤ condition_at head point (pos k) → FitsAll body (turn_point head point (pos k)))
  Fits (guard tests body) point = TestsFit tests point × (all_hold tests point ≡ true → FitsAll body point)
  Fits (statement s) point = StatementFits s point

  -- those of trees, one after another
  pub FitsAll : Trees → List ℤ → Type 0
  FitsAll none point = ⊤
  FitsAll (more t ts) point = Fits t point × FitsAll ts point
