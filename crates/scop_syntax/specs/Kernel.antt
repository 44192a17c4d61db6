-- Well-formed kernels, within the limits of the language.
use Rattle.std.specs.Prelude.{◌≡◌, ℕ, ◌+◌, ◌-◌, ◌^◌, ◌<◌, ◌≤◌, ℤ, pos, negsuc, ◌≤ℤ◌, List, [], ◌∷◌, length, map, All}
use Rattle.std.specs.Prelude.{slice_index_or, unsigned_abs, ◌⊎◌, ⊤, Bool, true, false}
use Rattle.whole_numbers.specs.Affine.{Affine}
use Rattle.scop_syntax.specs.Tree.{Access, Expression, read, constant, affine, negated, complemented, cast, binary}
use Rattle.scop_syntax.specs.Tree.{shifted_left, shifted_right, Narrowing, converted, narrowed, Right, assigned}
use Rattle.scop_syntax.specs.Tree.{combined, moved_left, moved_right, combined_narrow, moved_left_narrow, Statement}
use Rattle.scop_syntax.specs.Tree.{Test, at_least, equal, Head, Tree, loop, guard, statement, Trees, none, more}
use Rattle.scop_syntax.specs.Tree.{Declaration, Program}
use Rattle.scop_syntax.specs.Members.{Sorted}
use Rattle.scop_syntax.specs.Walk.{statements_in_all}
use Rattle.scop_syntax.specs.Cells.{reads}
use Rattle.scop_syntax.specs.Statements.{Scope, round, under, Placed, loops_in, comparisons_in}
use Rattle.scop_syntax.specs.Widths.{IsTyped}

-- each entry is at most k in absolute value
abbrev pub AreAtMost : ℕ → List ℤ → Type 0
AreAtMost k [] = ⊤
AreAtMost k (x ∷ xs) = (unsigned_abs x ≤ k) × AreAtMost k xs

-- a form over n entries, with coefficients within k and a constant within c
pub record IsForm (n k c : ℕ) (form : Affine) : Type 0 where
  pub entries : length form.coefficients ≡ n
  pub coefficients : AreAtMost k form.coefficients
  pub constant : unsigned_abs form.constant ≤ c

-- an affine form of the text
abbrev pub IsAffine : ℕ → Affine → Type 0
IsAffine n form = IsForm n 16 (2 ^ 20) form

-- a loop's condition: its iterator against such a form, with a constant that may be 1 more
abbrev pub IsCondition : ℕ → Affine → Type 0
IsCondition n form = IsForm n 16 (2 ^ 20 + 1) form

-- a comparison: the difference of two such forms, with a constant that may be 1 more
abbrev pub IsComparison : ℕ → Affine → Type 0
IsComparison n form = IsForm n 32 (2 ^ 21 + 1) form

-- the form of a comparison
abbrev pub test_form : Test → Affine
test_form (at_least form) = form
test_form (equal form) = form

-- the coefficient of a loop's own iterator in its condition, where n entries stand round the loop
abbrev pub own : ℕ → Head → ℤ
own n head = slice_index_or head.condition.coefficients n (pos 0)

-- the head of a loop at a point with n entries: the iterator rises by 1 to 16 a turn up to a form, or falls by as much
-- down to one (in the condition it is subtracted from the form, or the form from it)
pub record IsHead (n : ℕ) (head : Head) : Type 0 where
  pub first : IsAffine n head.first
  pub condition : IsCondition (n + 1) head.condition
  pub stride : unsigned_abs head.stride ≤ 16
  pub direction : ((own n head ≡ negsuc 0) × (pos 1 ≤ℤ head.stride)) ⊎
      ((own n head ≡ pos 1) × (head.stride ≤ℤ negsuc 0))

-- an access names one of the arrays with these ranks, and has a subscript for each dimension
pub record IsAccess (ranks : List ℕ) (n : ℕ) (access : Access) : Type 0 where
  pub array : access.array < length ranks
  pub rank : length access.subscripts ≡ slice_index_or ranks access.array 0
  pub subscripts : All (IsAffine n) access.subscripts

-- what is converted beside 32 bits is a form, or a constant of 32 bits
abbrev pub IsNarrowed : Narrowing → Expression → Type 0
IsNarrowed converted (affine form) = ⊤
IsNarrowed converted (constant c) = c < 2 ^ 32
IsNarrowed converted e = ⊥
IsNarrowed w e = ⊤

-- constants have 64 bits, and shifts a count below 64 (C17 6.5.7p3)
abbrev pub IsExpression : List ℕ → ℕ → Expression → Type 0
IsExpression ranks n (read access) = IsAccess ranks n access
IsExpression ranks n (constant c) = c < 2 ^ 64
IsExpression ranks n (affine form) = IsAffine n form
IsExpression ranks n (negated e) = IsExpression ranks n e
IsExpression ranks n (complemented e) = IsExpression ranks n e
IsExpression ranks n (cast e) = IsExpression ranks n e
IsExpression ranks n (binary op e f) = IsExpression ranks n e × IsExpression ranks n f
IsExpression ranks n (shifted_left e k) = (k ≤ 63) × IsExpression ranks n e
IsExpression ranks n (shifted_right e k) = (k ≤ 63) × IsExpression ranks n e
IsExpression ranks n (narrowed w e) = IsNarrowed w e × IsExpression ranks n e

-- the right of a place; shifts have a count below 64 there too, and below 32 for `<<=` on a narrow place
abbrev pub IsRight : List ℕ → ℕ → Right → Type 0
IsRight ranks n (assigned e) = IsExpression ranks n e
IsRight ranks n (combined op e) = IsExpression ranks n e
IsRight ranks n (moved_left k) = k ≤ 63
IsRight ranks n (moved_right k) = k ≤ 63
IsRight ranks n (combined_narrow op e) = IsExpression ranks n e
IsRight ranks n (moved_left_narrow k) = k ≤ 31

-- a statement: a place, what stands on its right, and at most 16 reads
pub record IsStatement (ranks : List ℕ) (n : ℕ) (s : Statement) : Type 0 where
  pub place : IsAccess ranks n s.place
  pub right : IsRight ranks n s.right
  pub few_reads : length (reads s) ≤ 16

abbrev mutual
  -- a tree at a point with n entries, with at most this many loops in one another and this many comparisons round
  -- a statement; no loop or guard is without a statement
  pub IsTree : List ℕ → ℕ → ℕ → ℕ → Tree → Type 0
  IsTree ranks n loops comparisons (loop head body) =
      (0 < loops) × IsHead n head × (0 < statements_in_all body) × AreTrees ranks (n + 1) (loops - 1) comparisons body
  IsTree ranks n loops comparisons (guard tests body) =
      (0 < length tests) × (length tests ≤ comparisons) × All (λ test. IsComparison n (test_form test)) tests
      × (0 < statements_in_all body) × AreTrees ranks n loops (comparisons - length tests) body
  IsTree ranks n loops comparisons (statement s) = IsStatement ranks n s

  -- each of these trees is such a one
  pub AreTrees : List ℕ → ℕ → ℕ → ℕ → Trees → Type 0
  AreTrees ranks n loops comparisons none = ⊤
  AreTrees ranks n loops comparisons (more t ts) =
      IsTree ranks n loops comparisons t × AreTrees ranks n loops comparisons ts

-- what is stored in 32 bits is kept to them, and operators that keep so store nowhere else; values have the types that
-- C gives them, where the arrays have these widths
abbrev pub HasWidth : List Bool → Bool → Right → Type 0
HasWidth narrow true (assigned (narrowed w e)) = IsTyped narrow e
HasWidth narrow true (assigned e) = ⊥
HasWidth narrow true (combined op e) = ⊥
HasWidth narrow true (combined_narrow op e) = IsTyped narrow e
HasWidth narrow true (moved_left k) = ⊥
HasWidth narrow true (moved_right k) = k ≤ 31
HasWidth narrow false (assigned e) = IsTyped narrow e
HasWidth narrow false (combined op e) = IsTyped narrow e
HasWidth narrow false (combined_narrow op e) = ⊥
HasWidth narrow false (moved_left_narrow k) = ⊥
HasWidth narrow b right = ⊤

abbrev mutual
  -- so it is in each statement of a tree, where the arrays have these widths
  pub KeepsWidths : List Bool → Tree → Type 0
  KeepsWidths narrow (loop head body) = KeepWidths narrow body
  KeepsWidths narrow (guard tests body) = KeepWidths narrow body
  KeepsWidths narrow (statement s) = HasWidth narrow (slice_index_or narrow s.place.array false) s.right

  -- and of trees, one after another
  pub KeepWidths : List Bool → Trees → Type 0
  KeepWidths narrow none = ⊤
  KeepWidths narrow (more t ts) = KeepsWidths narrow t × KeepWidths narrow ts

-- one to four extents, over n parameters
pub record IsDeclaration (n : ℕ) (declaration : Declaration) : Type 0 where
  pub place : declaration.parameters_before ≤ n
  pub some : 1 ≤ length declaration.extents
  pub few : length declaration.extents ≤ 4
  pub extents : All (IsAffine n) declaration.extents

-- how many dimensions each array has
abbrev pub ranks_of : Program → List ℕ
ranks_of program = map (λ d. length d.extents) program.arrays

-- which arrays have cells of 32 bits
abbrev pub narrow_arrays : Program → List Bool
narrow_arrays program = map (λ d. d.narrow) program.arrays

-- a kernel: at most 4 parameters, 16 arrays, 32 statements, 5 loops in one another, 16 comparisons round a statement
pub record IsKernel (program : Program) : Type 0 where
  pub few_parameters : length program.parameters ≤ 4
  pub few_arrays : length program.arrays ≤ 16
  pub few_statements : statements_in_all program.body ≤ 32
  pub declarations : All (IsDeclaration (length program.parameters)) program.arrays
  pub in_order : Sorted (λ (d e : Declaration). d.parameters_before ≤ e.parameters_before) program.arrays
  pub body : AreTrees (ranks_of program) (length program.parameters) 5 16 program.body
  pub widths : KeepWidths (narrow_arrays program) program.body

-- what stands round a statement, from a point with n entries on
abbrev pub AreScopes : ℕ → List Scope → Type 0
AreScopes n [] = ⊤
AreScopes n (under tests ∷ scopes) = All (λ test. IsComparison n (test_form test)) tests × AreScopes n scopes
AreScopes n (round head ∷ scopes) = IsHead n head × AreScopes (n + 1) scopes

-- a statement with what stands round it, from a point with n entries on
pub record IsPlaced (ranks : List ℕ) (n : ℕ) (p : Placed) : Type 0 where
  pub scopes : AreScopes n p.scopes
  pub few_loops : loops_in p.scopes ≤ 5
  pub few_comparisons : comparisons_in p.scopes ≤ 16
  pub body : IsStatement ranks (n + loops_in p.scopes) p.body
