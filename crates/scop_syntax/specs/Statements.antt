-- The statements of a tree with what stands round each, and when an instance of one runs.
use Rattle.std.specs.Prelude.{◌≡◌, ℕ, suc, ◌+◌, ℤ, pos, ◌≤ℤ◌, List, [], ◌∷◌, ◌++◌, length, map, ⊤}
use Rattle.whole_numbers.specs.Affine.{value_of}
use Rattle.scop_syntax.specs.Tree.{Statement, Test, at_least, equal, Head, Tree, loop, guard, statement, Trees, none}
use Rattle.scop_syntax.specs.Tree.{more, Program}
use Rattle.scop_syntax.specs.Walk.{turn_point, condition_at, statements_in, Visit}

-- a loop or a guard round a statement
pub data Scope : Type 0 where
  round : Head → Scope
  under : List Test → Scope

-- a statement: its number in textual order, the loops round it, and all that stands round it, outermost first
pub record Placed : Type 0 where
  pub number : ℕ
  pub loops : List ℕ
  pub scopes : List Scope
  pub body : Statement

-- how many loops there are
abbrev pub loops_in : List Scope → ℕ
loops_in [] = 0
loops_in (under tests ∷ scopes) = loops_in scopes
loops_in (round head ∷ scopes) = suc (loops_in scopes)

-- how many comparisons the guards have
abbrev pub comparisons_in : List Scope → ℕ
comparisons_in [] = 0
comparisons_in (under tests ∷ scopes) = length tests + comparisons_in scopes
comparisons_in (round head ∷ scopes) = comparisons_in scopes

-- a statement of a body as one of the loop of number l
abbrev pub in_loop_of : ℕ → Head → Placed → Placed
in_loop_of l head p =
    record { number = p.number; loops = l ∷ p.loops; scopes = round head ∷ p.scopes; body = p.body }

-- a statement of a body as one of the guard
abbrev pub in_guard_of : List Test → Placed → Placed
in_guard_of tests p =
    record { number = p.number; loops = p.loops; scopes = under tests ∷ p.scopes; body = p.body }

abbrev mutual
  -- the statements of a tree in textual order, numbered from n
  pub placed : Tree → ℕ → List Placed
  placed (loop head body) n = map (in_loop_of n head) (placed_all body n)
  placed (guard tests body) n = map (in_guard_of tests) (placed_all body n)
  placed (statement s) n = record { number = n; loops = []; scopes = []; body = s } ∷ []

  -- those of trees, one after another
  pub placed_all : Trees → ℕ → List Placed
  placed_all none n = []
  placed_all (more t ts) n = placed t n ++ placed_all ts (n + statements_in t)

-- a program's statements
abbrev pub statements_of : Program → List Placed
statements_of program = placed_all program.body 0

-- the point within the given turns of the loops
abbrev pub point_of : List Scope → List ℤ → List ℤ → List ℤ
point_of [] point xs = point
point_of (under tests ∷ scopes) point xs = point_of scopes point xs
point_of (round head ∷ scopes) point [] = point
point_of (round head ∷ scopes) point (x ∷ xs) = point_of scopes (turn_point head point x) xs

-- a test holds at a point
abbrev pub Holds : Test → List ℤ → Type 0
Holds (at_least form) point = pos 0 ≤ℤ value_of form point
Holds (equal form) point = value_of form point ≡ pos 0

-- all of them do
abbrev pub AllHold : List Test → List ℤ → Type 0
AllHold [] point = ⊤
AllHold (test ∷ tests) point = Holds test point × AllHold tests point

-- the turns are those of an instance: none is negative, and each condition and each guard holds there
abbrev pub Runs : List Scope → List ℤ → List ℤ → Type 0
Runs [] point [] = ⊤
Runs [] point (x ∷ xs) = ⊥
Runs (under tests ∷ scopes) point xs = AllHold tests point × Runs scopes point xs
Runs (round head ∷ scopes) point [] = ⊥
Runs (round head ∷ scopes) point (x ∷ xs) =
    (pos 0 ≤ℤ x) × (pos 0 ≤ℤ condition_at head point x) × Runs scopes (turn_point head point x) xs

-- the instance of a statement at these turns
abbrev pub visit_of : Placed → List ℤ → List ℤ → Visit
visit_of p point xs =
    record { number = p.number; loops = p.loops; turns = xs; point = point_of p.scopes point xs; body = p.body }
