-- The walk as an interpreter goes along it: without the numbers of statements and turns.
use Rattle.std.specs.Prelude.{ℤ, pos, List, [], ◌∷◌, ◌++◌, if◌then◌else◌}
use Rattle.scop_syntax.specs.Tree.{Statement, Tree, loop, guard, statement, Trees, none, more}
use Rattle.scop_syntax.specs.Walk.{all_hold, turn_point, condition_at, loop_walk, Visit}

-- a statement and the point at which it runs
pub record Act : Type 0 where
  pub body : Statement
  pub point : List ℤ

-- a visit without its numbers
abbrev pub act_of : Visit → Act
act_of v = record { body = v.body; point = v.point }

abbrev mutual
  -- the acts of a tree at a point, in the order in which they run
  pub acts : Tree → List ℤ → List Act
  acts (loop head body) point =
      loop_walk (λ k. condition_at head point (pos k)) (λ k. acts_all body (turn_point head point (pos k)))
  acts (guard tests body) point = if all_hold tests point then acts_all body point else []
  acts (statement s) point = record { body = s; point = point } ∷ []

  -- those of trees, one after another
  pub acts_all : Trees → List ℤ → List Act
  acts_all none point = []
  acts_all (more t ts) point = acts t point ++ acts_all ts point
