-- Loop trees that have a text of a kernel, and kernels whose names a text tells apart.
use Rattle.std.specs.Prelude.{◌≡◌, ◌^◌, ◌<◌, ◌≤◌, ◌+◌, ℕ, suc, true, ℤ, pos, negsuc, List, [], ◌∷◌, ◌++◌, length}
use Rattle.std.specs.Prelude.{slice_get, Some, unsigned_abs, ⊤}
use Rattle.whole_numbers.specs.Affine.{Affine}
use Rattle.scop_syntax.specs.Tree.{Head, Program}
use Rattle.loop_tree.specs.Tree.{Bound, Bounds, only, besides, Test, at_least, equal, multiple, Tree, loop, guard}
use Rattle.loop_tree.specs.Tree.{instance, Trees, none, more}
use Rattle.form_text.specs.Names.{AreNames}
use Rattle.c_printer.specs.Forms.{names_in}
use Rattle.scop_syntax.specs.Standings.{Standing, standings_of}
use Rattle.c_printer.specs.Naming.{iterators_of}
use Rattle.c_printer.specs.Reading.{is_narrow, is_narrow_form}

-- a form with a coefficient for each loop and each parameter, of numbers of 64 bits
pub record IsTreeForm (parameters loops : ℕ) (form : Affine) : Type 0 where
  pub entries : length form.coefficients ≡ loops + parameters
  pub narrow : is_narrow_form form ≡ true

-- a divisor of 64 bits, at least 1
abbrev pub IsDivisor : ℤ → Type 0
IsDivisor (pos m) = (1 ≤ m) × (m < 2 ^ 63)
IsDivisor (negsuc m) = ⊥

-- a bound
abbrev pub IsBound : ℕ → ℕ → Bound → Type 0
IsBound parameters loops b = IsTreeForm parameters loops b.form × IsDivisor b.divisor

-- bounds of one side
abbrev pub AreBounds : ℕ → ℕ → Bounds → Type 0
AreBounds parameters loops (only b) = IsBound parameters loops b
AreBounds parameters loops (besides b bs) = IsBound parameters loops b × AreBounds parameters loops bs

-- a test
abbrev pub IsTest : ℕ → ℕ → Test → Type 0
IsTest parameters loops (at_least form) = IsTreeForm parameters loops form
IsTest parameters loops (equal form) = IsTreeForm parameters loops form
IsTest parameters loops (multiple form d) = IsTreeForm parameters loops form × IsDivisor d

-- tests
abbrev pub AreTests : ℕ → ℕ → List Test → Type 0
AreTests parameters loops [] = ⊤
AreTests parameters loops (test ∷ tests) = IsTest parameters loops test × AreTests parameters loops tests

-- a turn for each loop
abbrev pub AreTurns : ℕ → ℕ → List Head → List Affine → Type 0
AreTurns parameters loops [] [] = ⊤
AreTurns parameters loops [] (turn ∷ turns) = ⊥
AreTurns parameters loops (head ∷ heads) [] = ⊥
AreTurns parameters loops (head ∷ heads) (turn ∷ turns) =
    IsTreeForm parameters loops turn × AreTurns parameters loops heads turns

-- the number is that of a statement, with a turn for each loop round it
pub record IsInstance (program : Program) (loops n : ℕ) (turns : List Affine) : Type 0 where
  pub standing : Standing
  pub stands : slice_get (standings_of program) n ≡ Some standing
  pub turned : AreTurns (length program.parameters) loops standing.heads turns

abbrev mutual
  -- a node with this many loops round it; each guard has a test
  pub IsNode : Program → ℕ → Tree → Type 0
  IsNode program loops (loop flag lo up body) =
      (loops < 2 ^ 63) × AreBounds (length program.parameters) loops lo
      × AreBounds (length program.parameters) loops up × AreNodes program (suc loops) body
  IsNode program loops (guard [] body) = ⊥
  IsNode program loops (guard (test ∷ tests) body) =
      AreTests (length program.parameters) loops (test ∷ tests) × AreNodes program loops body
  IsNode program loops (instance n turns) = IsInstance program loops n turns

  -- nodes
  pub AreNodes : Program → ℕ → Trees → Type 0
  AreNodes program loops none = ⊤
  AreNodes program loops (more t ts) = IsNode program loops t × AreNodes program loops ts

-- a loop that starts at a form over so many entries; numbers have 64 bits, and the stride is not 0
pub record IsStart (n : ℕ) (head : Head) : Type 0 where
  pub entries : length head.first.coefficients ≡ n
  pub narrow : is_narrow_form head.first ≡ true
  pub stride : is_narrow head.stride ≡ true
  pub some : 1 ≤ unsigned_abs head.stride

-- loops, each over one entry more
abbrev pub AreHeads : ℕ → List Head → Type 0
AreHeads n [] = ⊤
AreHeads n (head ∷ heads) = IsStart n head × AreHeads (suc n) heads

-- the names of a program are told apart, wherever loops of a tree stand round a statement
pub record IsNamed (program : Program) : Type 0 where
  pub few : length (standings_of program) < 2 ^ 63
  pub loops : (d : ℕ) → d ≤ 2 ^ 63 → AreNames (names_in program.parameters d)
  pub statements : (d n : ℕ) (s : Standing) → d ≤ 2 ^ 63 → slice_get (standings_of program) n ≡ Some s
      → AreNames (names_in program.parameters d ++ iterators_of s.heads)
  pub heads : (n : ℕ) (s : Standing) → slice_get (standings_of program) n ≡ Some s
      → AreHeads (length program.parameters) s.heads
