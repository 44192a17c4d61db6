-- The runs of a program (C17; OpenMP 5.0 for parallel loops): which assignments they reach, in which order, and what
-- these leave in the arrays.
use Rattle.std.specs.Prelude.{◌≡◌, ◌⊎◌, map, ℕ, zero, suc, Bool, true, false, ℤ, pos, ◌+ℤ◌, ◌-ℤ◌, List, [], ◌∷◌, ◌++◌}
use Rattle.std.specs.Prelude.{length, nat_lt, ◌&&◌, Option, Some, None}
use Rattle.form_text.specs.Reading.{when}
use Rattle.scop_syntax.specs.Cells.{Cell}
use Rattle.scop_syntax.specs.Members.{In}
use Rattle.scop_syntax.specs.Walk.{most_turns}
use Rattle.loop_tree.specs.Runs.{IsShuffle}
use Rattle.c_meaning.specs.Syntax.{at_most, Expression, name, Assignment, Statement, loop, branch, block, Statements}
use Rattle.c_meaning.specs.Syntax.{none, more}
use Rattle.c_meaning.specs.Expressions.{kept, worth, compared, both, all_of, constants}
use Rattle.c_meaning.specs.Assignments.{Arrays, Contents, assigned, named, places_behind}

-- an assignment that was reached, and the values of the names in scope there
pub record Act : Type 0 where
  pub assignment : Assignment
  pub point : List ℤ

-- what a run comes to: its assignments in order; none where it met what is undefined
abbrev pub Outcome : Type 0
Outcome = Option (List Act)

-- a run goes on with what was made; where there is none, it is undefined (3.4.3)
abbrev pub After : {A : Type 0} → Option A → Outcome → (A → Type 0) → Type 0
After None o f = o ≡ None
After (Some a) o f = f a

-- a loop is not entered once more: its condition is false or undefined
abbrev pub Stops : Option Bool → Outcome → Type 0
Stops None o = o ≡ None
Stops (Some true) o = ⊥
Stops (Some false) o = o ≡ Some []

-- a loop at x, which runs its body n times more: the condition before each run of the body, the increment behind each
-- (6.8.5p4, 6.8.5.3p1, 6.5.2.4p2)
abbrev pub InTurn : (ℤ → Option Bool) → (ℤ → Outcome → Type 0) → ℤ → ℕ → Outcome → Type 0
InTurn condition Body x zero o = Stops (condition x) o
InTurn condition Body x (suc n) o =
    (condition x ≡ Some true) × (a : Outcome) × Body x a
    × After a o (λ vs. After (kept false (x +ℤ pos 1)) o
    (λ y. (b : Outcome) × InTurn condition Body y n b × After b o (λ ws. o ≡ Some (vs ++ ws))))

-- the cells that an act touches, in front the one that it assigns to
abbrev pub touched : Act → List (Option Cell)
touched a = map (named a.point) (a.assignment.place ∷ places_behind a.assignment.right)

-- an act assigns to a cell
abbrev pub Assigns : Act → Cell → Type 0
Assigns a c = named a.point a.assignment.place ≡ Some c

-- two acts conflict: one of them assigns to a cell that the other touches (5.1.2.4p4)
pub record Clash (a b : Act) : Type 0 where
  pub cell : Cell
  pub first : In (Some cell) (touched a)
  pub second : In (Some cell) (touched b)
  pub assigned : Assigns a cell ⊎ Assigns b cell

-- an act of one list conflicts with one of the other
pub record Race (vs ws : List Act) : Type 0 where
  pub left : Act
  pub right : Act
  pub is_left : In left vs
  pub is_right : In right ws
  pub clash : Clash left right

-- what an iteration and all later ones make together: any interleaving of their assignments. Nothing orders those of
-- two iterations, so where some conflict this is a data race, and undefined (5.1.2.4p35, OpenMP 1.4.1)
abbrev pub Together : List Act → List Act → Outcome → Type 0
Together vs ws o = (Race vs ws × (o ≡ None)) ⊎ ((zs : List Act) × IsShuffle vs ws zs × (o ≡ Some zs))

-- n iterations from x on, each once (OpenMP 2.9.2)
abbrev pub SideBySide : (ℤ → Outcome → Type 0) → ℤ → ℕ → Outcome → Type 0
SideBySide Body x zero o = o ≡ Some []
SideBySide Body x (suc n) o =
    (a : Outcome) × (b : Outcome) × Body x a × SideBySide Body (x +ℤ pos 1) n b
    × After a o (λ vs. After b o (λ ws. Together vs ws o))

-- NAME <= last, where the loop's iterator is the name behind those in scope
abbrev pub at_most_last : List ℤ → Expression → ℤ → Option Bool
at_most_last p last x =
    compared (p ++ x ∷ []) (record { relation = at_most; left = name (length p); right = last })

-- how many iterations a parallel loop from x to y has; each number on the way is of the iterator's type (OpenMP 2.9.1)
abbrev pub counted : ℤ → ℤ → Option ℤ
counted x y = when (kept false (y +ℤ pos 1)) (λ a. when (kept false (y -ℤ x)) (λ b. kept false (b +ℤ pos 1)))

abbrev mutual
  -- what a run of a statement may come to at a point
  pub MayDo : Statement → List ℤ → Outcome → Type 0
  -- the iterator is declared and initialised once, and is in scope in the rest of the loop (6.8.5.3p1)
  MayDo (loop false first last body) p o =
      After (worth p first) o (λ x. (n : ℕ) × InTurn (at_most_last p last) (λ y. MayDoAll body (p ++ y ∷ [])) x n o)
  -- how many iterations there are is known before the first; each has an iterator of its own (OpenMP 2.9.1, 2.19.1.1)
  MayDo (loop true first last body) p o =
      After (worth p first) o (λ x. After (worth p last) o (λ y. After (counted x y) o
      (λ z. SideBySide (λ k. MayDoAll body (p ++ k ∷ [])) x (most_turns (y -ℤ x)) o)))
  -- 6.8.4.1p2
  MayDo (branch c cs body) p o =
      After (both (compared p c) (all_of p cs)) o
      (λ t. (t ≡ true → MayDoAll body p o) × (t ≡ false → o ≡ Some []))
  -- declarations and statement in order (6.8.2p2)
  MayDo (block es a) p o = After (constants p es) o (λ vs. o ≡ Some (record { assignment = a; point = p ++ vs } ∷ []))

  -- statements, one after another (6.8p3)
  pub MayDoAll : Statements → List ℤ → Outcome → Type 0
  MayDoAll none p o = o ≡ Some []
  MayDoAll (more s ss) p o =
      (a : Outcome) × MayDo s p a
      × After a o (λ vs. (b : Outcome) × MayDoAll ss p b × After b o (λ ws. o ≡ Some (vs ++ ws)))

-- the contents behind assignments, one after another; none where one of them is undefined
abbrev pub performed : Arrays → List Act → Contents → Option Contents
performed arrays [] contents = Some contents
performed arrays (a ∷ acts) contents = when (assigned arrays a.point a.assignment contents) (performed arrays acts)

-- the contents behind a run
abbrev pub left_by : Arrays → Outcome → Contents → Option Contents
left_by arrays o contents = when o (λ acts. performed arrays acts contents)

-- each of these is above 0
abbrev pub are_positive : List ℕ → Bool
are_positive [] = true
are_positive (n ∷ ns) = nat_lt 0 n && are_positive ns

-- each extent of each array is
abbrev pub have_cells : List (List ℕ) → Bool
have_cells [] = true
have_cells (ns ∷ extents) = are_positive ns && have_cells extents

-- what a call of a function with this body and these arrays may come to at its parameters: sizes in the types of array
-- parameters are evaluated on entry (6.9.1p10), and one that is not above 0 is undefined (6.7.6.2p5)
abbrev pub MayCall : Arrays → Statements → List ℤ → Outcome → Type 0
MayCall arrays body params o =
    (have_cells arrays.extents ≡ true → MayDoAll body params o) × (have_cells arrays.extents ≡ false → o ≡ None)
