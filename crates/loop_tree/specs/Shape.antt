-- What a tree is like, whatever it visits: no loop is parallel, each form has a coefficient for each variable, each
-- instance is one of a program's statement, how large the numbers are; guards within loops.
use Rattle.std.specs.Prelude.{◌≡◌, ℕ, zero, suc, ◌+◌, ◌≤◌, ℤ, Bool, true, false, List, length, All, ⊤, if◌then◌else◌}
use Rattle.std.specs.Prelude.{slice_get, Some, unsigned_abs}
use Rattle.whole_numbers.specs.Affine.{Affine}
use Rattle.scop_syntax.specs.Kernel.{AreAtMost}
use Rattle.scop_syntax.specs.Statements.{Placed, loops_in, statements_of}
use Rattle.scop_syntax.specs.Tree.{Program}
use Rattle.loop_tree.specs.Tree.{Bounds, only, besides, Test, at_least, equal, multiple, Tree, loop, guard}
use Rattle.loop_tree.specs.Tree.{instance, Trees, none, more}
use Rattle.loop_tree.specs.Fits.{form_in}

abbrev mutual
  -- no loop is parallel
  pub IsSerial : Tree → Type 0
  IsSerial (loop flag lo up body) = (flag ≡ false) × AreSerial body
  IsSerial (guard tests body) = AreSerial body
  IsSerial (instance n forms) = ⊤

  -- nor is one of these trees
  pub AreSerial : Trees → Type 0
  AreSerial none = ⊤
  AreSerial (more t ts) = IsSerial t × AreSerial ts

-- the form has n coefficients
abbrev pub IsOver : ℕ → Affine → Type 0
IsOver n f = length f.coefficients ≡ n

-- so have those of bounds
abbrev pub BoundsAreOver : ℕ → Bounds → Type 0
BoundsAreOver n (only b) = IsOver n b.form
BoundsAreOver n (besides b bs) = IsOver n b.form × BoundsAreOver n bs

abbrev mutual
  -- each form has a coefficient for each loop round it and for each parameter: n of them round the tree
  pub TreeIsOver : ℕ → Tree → Type 0
  TreeIsOver n (loop flag lo up body) = BoundsAreOver n lo × BoundsAreOver n up × TreesAreOver (suc n) body
  TreeIsOver n (guard tests body) = All (λ test. IsOver n (form_in test)) tests × TreesAreOver n body
  TreeIsOver n (instance k forms) = All (IsOver n) forms

  -- so have those of trees
  pub TreesAreOver : ℕ → Trees → Type 0
  TreesAreOver n none = ⊤
  TreesAreOver n (more t ts) = TreeIsOver n t × TreesAreOver n ts

-- the number is that of a statement, and there is a form for each loop round it in the source
pub record IsInstanceOf (program : Program) (k : ℕ) (forms : List Affine) : Type 0 where
  pub statement : Placed
  pub stands : slice_get (statements_of program) k ≡ Some statement
  pub turned : length forms ≡ loops_in statement.scopes

abbrev mutual
  -- each instance is one of a statement of the program
  pub TreeIsOf : Program → Tree → Type 0
  TreeIsOf program (loop flag lo up body) = TreesAreOf program body
  TreeIsOf program (guard tests body) = TreesAreOf program body
  TreeIsOf program (instance k forms) = IsInstanceOf program k forms

  -- so is each of those of trees
  pub TreesAreOf : Program → Trees → Type 0
  TreesAreOf program none = ⊤
  TreesAreOf program (more t ts) = TreeIsOf program t × TreesAreOf program ts

-- each number of the form is at most n in absolute value
abbrev pub IsUpTo : ℕ → Affine → Type 0
IsUpTo n f = AreAtMost n f.coefficients × (unsigned_abs f.constant ≤ n)

-- so are those of a form and its divisor
abbrev pub IsOverUpTo : ℕ → Affine → ℤ → Type 0
IsOverUpTo n f d = IsUpTo n f × (unsigned_abs d ≤ n)

-- those of bounds
abbrev pub BoundsAreUpTo : ℕ → Bounds → Type 0
BoundsAreUpTo n (only b) = IsOverUpTo n b.form b.divisor
BoundsAreUpTo n (besides b bs) = IsOverUpTo n b.form b.divisor × BoundsAreUpTo n bs

-- those of a test
abbrev pub TestIsUpTo : ℕ → Test → Type 0
TestIsUpTo n (at_least f) = IsUpTo n f
TestIsUpTo n (equal f) = IsUpTo n f
TestIsUpTo n (multiple f d) = IsOverUpTo n f d

abbrev mutual
  -- each coefficient, constant and divisor of the tree is at most n in absolute value
  pub TreeIsUpTo : ℕ → Tree → Type 0
  TreeIsUpTo n (loop flag lo up body) = BoundsAreUpTo n lo × BoundsAreUpTo n up × TreesAreUpTo n body
  TreeIsUpTo n (guard tests body) = All (TestIsUpTo n) tests × TreesAreUpTo n body
  TreeIsUpTo n (instance k forms) = All (IsUpTo n) forms

  -- so is each of those of trees
  pub TreesAreUpTo : ℕ → Trees → Type 0
  TreesAreUpTo n none = ⊤
  TreesAreUpTo n (more t ts) = TreeIsUpTo n t × TreesAreUpTo n ts

abbrev mutual
  -- at most n loops of the tree stand in one another
  pub NestsTo : ℕ → Tree → Type 0
  NestsTo zero (loop flag lo up body) = ⊥
  NestsTo (suc n) (loop flag lo up body) = NestAllTo n body
  NestsTo n (guard tests body) = NestAllTo n body
  NestsTo n (instance k forms) = ⊤

  -- nor of these trees
  pub NestAllTo : ℕ → Trees → Type 0
  NestAllTo n none = ⊤
  NestAllTo n (more t ts) = NestsTo n t × NestAllTo n ts

abbrev mutual
  -- how many guards of a tree stand within a loop, which one round the tree is, too
  pub inner_guards : Bool → Tree → ℕ
  inner_guards inside (loop flag lo up body) = inner_guards_all true body
  inner_guards inside (guard tests body) = (if inside then 1 else 0) + inner_guards_all inside body
  inner_guards inside (instance n forms) = 0

  -- and of those of trees
  pub inner_guards_all : Bool → Trees → ℕ
  inner_guards_all inside none = 0
  inner_guards_all inside (more t ts) = inner_guards inside t + inner_guards_all inside ts
