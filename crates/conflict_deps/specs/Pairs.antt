-- What the systems of conflicts are to hold.
use Rattle.std.specs.Prelude.{◌≡◌, ℕ, ◌<◌, ℤ, List, ◌++◌, length, slice_get, Some}
use Rattle.integer_sets.specs.Points.{Satisfies}
use Rattle.scop_syntax.specs.Tree.{Access, Program}
use Rattle.scop_syntax.specs.Members.{In}
use Rattle.scop_syntax.specs.Walk.{Visit, walk_of}
use Rattle.scop_syntax.specs.Cells.{accesses, Cell, cell_of, written, PlacesConflict}
use Rattle.iteration_domains.specs.Model.{model_of}
use Rattle.iteration_domains.specs.Dependence.{Dependence}
use Rattle.iteration_domains.specs.declared.dep.DepEnd.{DepEnd}
use Rattle.conflict_deps.specs.Conflicts.{conflicts_of}

-- the turns xs of the source and ys of the target are a whole point of one of the program's systems
pub record IsPoint (program : Program) (params : List ℤ) (dep : Dependence) (xs ys : List ℤ) : Type 0 where
  pub among : In dep (conflicts_of (model_of program))
  pub source : length xs ≡ dep.source.loops
  pub target : length ys ≡ dep.target.loops
  pub holds : Satisfies dep.system (xs ++ (ys ++ params))

-- the end of a dependence is access a of an instance's statement
pub record IsEnd (e : DepEnd) (v : Visit) (a : ℕ) : Type 0 where
  pub statement : e.statement ≡ v.number
  pub access : e.access ≡ a

-- the instances at two conflicting places, the earlier first, are those at these turns of the dependence's ends
pub record IsPair (program : Program) (params : List ℤ) (dep : Dependence) (xs ys : List ℤ) (i j : ℕ) : Type 0 where
  pub conflict : PlacesConflict (walk_of program params) i j
  pub source : IsEnd dep.source conflict.earlier conflict.first
  pub target : IsEnd dep.target conflict.later conflict.second
  pub source_turns : conflict.earlier.turns ≡ xs
  pub target_turns : conflict.later.turns ≡ ys

-- at place j stands the instance w, and its access b touches the cell
pub record TouchesAt (program : Program) (params : List ℤ) (j : ℕ) (w : Visit) (b : ℕ) (c : Cell) : Type 0 where
  pub place : slice_get (walk_of program params) j ≡ Some w
  pub access : Access
  pub is_access : slice_get (accesses w.body) b ≡ Some access
  pub cell : cell_of access w.point ≡ c

-- place k comes before place j, and its instance u writes the cell
pub record WritesBefore (program : Program) (params : List ℤ) (k j : ℕ) (u : Visit) (c : Cell) : Type 0 where
  pub earlier : k < j
  pub place : slice_get (walk_of program params) k ≡ Some u
  pub writes : written u ≡ c

-- place k comes behind place j, and its instance u writes the cell
pub record WritesBehind (program : Program) (params : List ℤ) (k j : ℕ) (u : Visit) (c : Cell) : Type 0 where
  pub later : j < k
  pub place : slice_get (walk_of program params) k ≡ Some u
  pub writes : written u ≡ c
