-- What the calls that go over a tree require of it, and what they find there.
use Rattle.std.specs.Prelude.{ℕ, ◌+◌, ◌<◌, ◌≤◌, ◌^◌, ℤ, List, [], length, map, fold, slice_index_or}
use Rattle.scop_syntax.specs.Tree.{Access, Trees, Tree, loop, guard, statement, none, more}
use Rattle.scop_syntax.specs.Members.{In}
use Rattle.scop_syntax.specs.Cells.{accesses, cell_of}
use Rattle.scop_syntax.specs.Execution.{IsCell, IsShaped, cell_count, performed_by}
use Rattle.scop_syntax.specs.Acts.{Act, acts_all}
use Rattle.scop_syntax.specs.Fits.{FitsAll}
use Rattle.scop_syntax.specs.Kernel.{AreTrees, AreAtMost}
use Rattle.scop_syntax.specs.Walk.{statements_in_all, turn_point, statements_in, Visit}
use Rattle.std.specs.Prelude.{◌≡◌, ◌-◌, All, ◌∷◌, Option, Some, None, nat_lt, if◌then◌else◌, slice_get}
use Rattle.std.specs.Option.{option_map}
use Rattle.scop_syntax.specs.Failures.{Failure, outside_accesses}
use Rattle.scop_meaning.specs.declared.index.Outside.{Outside}
use Rattle.scop_meaning.specs.Outside.{outside_of}

-- the contents have the arrays' shape, and the number of an array's cells has 64 bits
pub record IsReady (extents contents : List (List ℕ)) : Type 0 where
  pub shape : IsShaped extents contents
  pub counts : (a : ℕ) → cell_count (slice_index_or extents a []) < 2 ^ 64

-- at this point each of these accesses is to a cell of its array
pub record AreCells (extents : List (List ℕ)) (point : List ℤ) (accesses : List Access) : Type 0 where
  pub each : (access : Access) → In access accesses → IsCell extents (cell_of access point)

-- well-formed trees at a point, with room for the iterators of their loops, whose numbers fit
pub record CanWalk (room : ℕ) (ranks : List ℕ) (trees : Trees) (point : List ℤ) : Type 0 where
  pub loops : ℕ
  pub comparisons : ℕ
  pub formed : AreTrees ranks (length point) loops comparisons trees
  pub space : length point + loops ≤ room
  pub numbers : FitsAll trees point

-- each cell that these acts touch is one of its array's
abbrev pub ActsAreInside : List (List ℕ) → List Act → Type 0
ActsAreInside extents acts = (a : Act) → In a acts → AreCells extents a.point (accesses a.body)

-- what a run of trees from a point needs, at given contents
pub record CanRun (room : ℕ) (extents : List (List ℕ)) (trees : Trees) (point : List ℤ) (contents : List (List ℕ)) :
    Type 0 where
  pub ranks : List ℕ
  pub walks : CanWalk room ranks trees point
  pub inside : ActsAreInside extents (acts_all trees point)
  pub ready : IsReady extents contents

-- the contents after these acts, one after another
abbrev pub ran : List (List ℕ) → List (List ℕ) → List Act → List (List ℕ)
ran extents contents acts = fold (λ now a. performed_by extents now a.body a.point) contents acts

-- what the index check of trees needs, whose first statement has this number
pub record CanCheck (room : ℕ) (extents : List (List ℕ)) (trees : Trees) (number : ℕ) (point : List ℤ) : Type 0 where
  pub walks : CanWalk room (map length extents) trees point
  pub few : number + statements_in_all trees ≤ 32

abbrev mutual
  -- the k-th statement of a tree, in textual order from 0, within these turns of the loops round it
  pub act_at : Tree → ℕ → List ℤ → List ℤ → Option Act
  act_at (loop head body) k point [] = None
  act_at (loop head body) k point (x ∷ xs) = act_at_all body k (turn_point head point x) xs
  act_at (guard tests body) k point xs = act_at_all body k point xs
  act_at (statement s) k point xs = Some (record { body = s; point = point })

  -- that of trees, one after another
  pub act_at_all : Trees → ℕ → List ℤ → List ℤ → Option Act
  act_at_all none k point xs = None
  act_at_all (more t ts) k point xs =
      if nat_lt k (statements_in t) then act_at t k point xs else act_at_all ts (k - statements_in t) point xs

-- what the search for it needs: it is there, and its point has room and entries of at most 40 bits
pub record CanFind (room : ℕ) (trees : Trees) (k : ℕ) (point turns : List ℤ) : Type 0 where
  pub act : Act
  pub is : act_at_all trees k point turns ≡ Some act
  pub space : length act.point ≤ room
  pub small : AreAtMost (2 ^ 40) act.point
  pub few : statements_in_all trees ≤ 32

-- extents of one array: each is at least 1, and there are at most 2^22 cells
pub record AreExtents (extents : List ℕ) : Type 0 where
  pub sizes : All (λ e. (1 ≤ e) × (e ≤ 2 ^ 22)) extents
  pub count : cell_count extents ≤ 2 ^ 22

-- the first of these failures
abbrev pub first_of : List Failure → Option Outside
first_of failures = option_map outside_of (slice_get failures 0)

-- a visit of the statement with this number, counted from 1, at this point
pub record IsAt (stmt : ℕ) (point : List ℤ) (v : Visit) : Type 0 where
  pub number : v.number + 1 ≡ stmt
  pub at : v.point ≡ point

-- the result is the first failure of these accesses
pub record FindsFirst (result : Option Outside) (stmt : ℕ) (point : List ℤ) (extents : List (List ℕ))
    (accesses : List Access) : Type 0 where
  pub found : (v : Visit) → IsAt stmt point v → result ≡ first_of (outside_accesses extents v 0 accesses)
