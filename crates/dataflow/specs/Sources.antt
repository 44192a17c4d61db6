-- The candidates of an access: the systems between it and the writes before it or behind it.
use Rattle.std.specs.Prelude.{◌≡◌, ℕ, ℤ, List, [], Option, Some, None, slice_get}
use Rattle.quast_trees.specs.Tree.{Tree, Speaks}
use Rattle.quast_trees.specs.Value.{value}
use Rattle.quast_joins.specs.declared.way.Way.{Way}
use Rattle.quast_joins.specs.declared.way.Way.TheVariants.{Later, Earlier}
use Rattle.scop_syntax.specs.Tree.{Program}
use Rattle.scop_syntax.specs.Members.{In}
use Rattle.scop_syntax.specs.Walk.{Visit}
use Rattle.scop_syntax.specs.Cells.{Cell}
use Rattle.scop_syntax.specs.Writers.{last_writer, next_writer}
use Rattle.iteration_domains.specs.Model.{Modelled, KernelModel, model_of}
use Rattle.iteration_domains.specs.Dependence.{Dependence}
use Rattle.iteration_domains.specs.declared.dep.DepEnd.{DepEnd}
use Rattle.conflict_deps.specs.Conflicts.{Side, conflicts_of}
use Rattle.conflict_deps.specs.Pairs.{IsPoint, IsEnd}
use Rattle.dataflow.specs.Candidates.{IsWanted}

-- which end of a pair writes
abbrev pub writer_end : Way → Dependence → DepEnd
writer_end Later dep = dep.source
writer_end Earlier dep = dep.target

-- which is the access in question
abbrev pub reader_end : Way → Dependence → DepEnd
reader_end Later dep = dep.target
reader_end Earlier dep = dep.source

-- of the two sides of a pair that which writes, and that which is the access in question
abbrev pub writer_side : Way → Side → Side → Side
writer_side Later s t = s
writer_side Earlier s t = t

abbrev pub reader_side : Way → Side → Side → Side
reader_side Later s t = t
reader_side Earlier s t = s

-- the writer of a cell that is wanted: the last before a place, or the next behind it
abbrev pub wanted_writer : Way → List Visit → ℕ → Cell → Option ℕ
wanted_writer Later visits j c = last_writer visits j c
wanted_writer Earlier visits j c = next_writer visits j c

-- the writer's turns xs and the reader's turns ys are a point of the pair
abbrev pub IsWritePoint : Way → Program → List ℤ → Dependence → List ℤ → List ℤ → Type 0
IsWritePoint Later program params dep xs ys = IsPoint program params dep xs ys
IsWritePoint Earlier program params dep xs ys = IsPoint program params dep ys xs

-- the loops round the statement of a number
abbrev pub loops_in : Option Modelled → List ℕ
loops_in None = []
loops_in (Some s) = s.loops

-- the same by its number in a model
abbrev pub loops_round : KernelModel → ℕ → List ℕ
loops_round model number = loops_in (slice_get model.statements number)

-- a candidate of access b of w: the access 0 of a statement with it
pub record IsCandidate (way : Way) (program : Program) (w : Visit) (b : ℕ) (dep : Dependence) : Type 0 where
  pub among : In dep (conflicts_of (model_of program))
  pub writes : (writer_end way dep).access ≡ 0
  pub access : IsEnd (reader_end way dep) w b

-- the candidate is solved: at the point the tree's answer is the greatest or least writer's turns, or the initial value
-- where there are none
pub record IsSolved (way : Way) (program : Program) (params : List ℤ) (w : Visit) (n : ℕ) (point : List ℤ)
    (dep : Dependence) (tree : Tree) : Type 0 where
  pub speaks : Speaks n tree
  pub wanted : IsWanted way (writer_end way dep).statement
      (loops_round (model_of program) (writer_end way dep).statement)
      (λ xs. IsWritePoint way program params dep xs w.turns) (value tree point)
