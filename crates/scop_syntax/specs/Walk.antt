-- The walk: the statement instances of a tree in the order in which they run.
use Rattle.std.specs.Prelude.{ℕ, zero, suc, ◌+◌, ◌<◌, Bool, true, false, ℤ, pos, negsuc, ◌+ℤ◌, ◌*ℤ◌, ◌≤ℤ◌, ◌<ℤ◌, List}
use Rattle.std.specs.Prelude.{[], ◌∷◌, ◌++◌, map, if◌then◌else◌}
use Rattle.std.specs.Int.Signed.{le_z}
use Rattle.whole_numbers.specs.Affine.{value_of}
use Rattle.scop_syntax.specs.Tree.{Statement, Test, at_least, equal, Head, Tree, loop, guard, statement, Trees, none}
use Rattle.scop_syntax.specs.Tree.{more, Program}

-- whether a test holds at a point
abbrev pub holds : Test → List ℤ → Bool
holds (at_least form) point = le_z (pos 0) (value_of form point)
holds (equal form) point =
    if le_z (pos 0) (value_of form point) then le_z (value_of form point) (pos 0) else false

-- whether all of them do (C17 6.5.13)
abbrev pub all_hold : List Test → List ℤ → Bool
all_hold [] point = true
all_hold (test ∷ tests) point = if holds test point then all_hold tests point else false

-- the point within turn x of a loop: its own iterator stands last
abbrev pub turn_point : Head → List ℤ → ℤ → List ℤ
turn_point head point x = point ++ (value_of head.first point +ℤ (head.stride *ℤ x)) ∷ []

-- a loop's condition at turn x
abbrev pub condition_at : Head → List ℤ → ℤ → ℤ
condition_at head point x = value_of head.condition (turn_point head point x)

-- turns after which a condition that falls by at least 1 a turn has failed
abbrev pub most_turns : ℤ → ℕ
most_turns (pos n) = suc n
most_turns (negsuc n) = 0

-- the bodies of turns k, k + 1, .. while the condition holds, in at most the given number of turns
abbrev pub turns : {A : Type 0} → (ℕ → ℤ) → (ℕ → List A) → ℕ → ℕ → List A
turns condition body zero k = []
turns condition body (suc n) k =
    if le_z (pos 0) (condition k) then body k ++ turns condition body n (k + 1) else []

-- the bodies of a loop's turns while its condition holds (C17 6.8.5.3), for a condition that falls
abbrev pub loop_walk : {A : Type 0} → (ℕ → ℤ) → (ℕ → List A) → List A
loop_walk condition body = turns condition body (most_turns (condition 0)) 0

-- at each turn the condition is less than at the turn before
abbrev pub Falls : (ℕ → ℤ) → Type 0
Falls condition = (k : ℕ) → condition (k + 1) <ℤ condition k

-- the condition holds at the turns below m, and not at turn m
pub record RunsFor (condition : ℕ → ℤ) (m : ℕ) : Type 0 where
  pub holds : (k : ℕ) → k < m → pos 0 ≤ℤ condition k
  pub fails : condition m <ℤ pos 0

abbrev mutual
  -- how many statements stand in a tree
  pub statements_in : Tree → ℕ
  statements_in (loop head body) = statements_in_all body
  statements_in (guard tests body) = statements_in_all body
  statements_in (statement s) = 1

  -- how many stand in trees, one after another
  pub statements_in_all : Trees → ℕ
  statements_in_all none = 0
  statements_in_all (more t ts) = statements_in t + statements_in_all ts

-- an instance of a statement: the statement's number in textual order from 0, the loops round it and the turn of each
-- from 0, outermost first, the point (parameters, then source iterators) and the statement.
-- A loop is known by the number of its first statement and its depth.
pub record Visit : Type 0 where
  pub number : ℕ
  pub loops : List ℕ
  pub turns : List ℤ
  pub point : List ℤ
  pub body : Statement

-- an instance by its numbers alone: the statement's, and the turns of the loops round it
pub record Instance : Type 0 where
  pub number : ℕ
  pub turns : List ℤ

-- a visit by its numbers alone
abbrev pub instance : Visit → Instance
instance v = record { number = v.number; turns = v.turns }

-- a visit of a loop's body as a visit of the loop
abbrev pub within : ℕ → ℤ → Visit → Visit
within l x v = record { number = v.number; loops = l ∷ v.loops; turns = x ∷ v.turns; point = v.point; body = v.body }

abbrev mutual
  -- the visits of a tree whose first statement has number n, at a point
  pub walk : Tree → ℕ → List ℤ → List Visit
  walk (loop head body) n point =
      loop_walk (λ k. condition_at head point (pos k))
      (λ k. map (within n (pos k)) (walk_all body n (turn_point head point (pos k))))
  walk (guard tests body) n point = if all_hold tests point then walk_all body n point else []
  walk (statement s) n point = record { number = n; loops = []; turns = []; point = point; body = s } ∷ []

  -- those of trees, one after another
  pub walk_all : Trees → ℕ → List ℤ → List Visit
  walk_all none n point = []
  walk_all (more t ts) n point = walk t n point ++ walk_all ts (n + statements_in t) point

-- a program's instances for given parameters, in the order in which they run; a place is an index of this list
abbrev pub walk_of : Program → List ℤ → List Visit
walk_of program params = walk_all program.body 0 params
