-- The dependences that hold each read with its last writer, and nothing else.
use Rattle.std.specs.Prelude.{◌≡◌, ℕ, suc, List, [], ◌∷◌, ◌++◌, Ok, ⊤}
use Rattle.std.specs.List.{flat_map}
use Rattle.quast_trees.specs.Postfix.{tree_of}
use Rattle.quast_trees.specs.Tree.{Tree, initial}
use Rattle.quast_joins.specs.declared.way.Way.TheVariants.{Later}
use Rattle.scop_syntax.specs.Tree.{Access}
use Rattle.scop_syntax.specs.Walk.{Visit, Instance}
use Rattle.iteration_domains.specs.Model.{Modelled, KernelModel}
use Rattle.iteration_domains.specs.Dependence.{Dependence}
use Rattle.conflict_deps.specs.Conflicts.{Side, sides_from}
use Rattle.dataflow.specs.CoverPoints.{IsCoverOf}
use Rattle.dataflow.specs.Leaves.{leaf_deps}
use Rattle.dataflow.specs.ReadSources.{IsSourceOf, AreSources, reads_of}
use Rattle.dataflow.specs.WriterRuns.{writers_run}
use Rattle.dataflow.specs.declared.source.ReadSource.{ReadSource}
use Rattle.dataflow.specs.declared.source.ReadSource.TheVariants as source

-- of a statement's accesses all but the first, which is written
abbrev pub behind_first : Modelled → List Access → List Side
behind_first s [] = []
behind_first s (a ∷ rest) = sides_from s 1 rest

-- a statement's reads
abbrev pub read_sides : Modelled → List Side
read_sides s = behind_first s s.accesses

-- those of all statements, by statement and read, as the sources stand
abbrev pub read_sides_in : KernelModel → List Side
read_sides_in model = flat_map read_sides model.statements

-- the leaves of each read's tree, one read after the other
abbrev pub flow_from : KernelModel → List Side → List Tree → List Dependence
flow_from model [] trees = []
flow_from model (reader ∷ readers) [] = []
flow_from model (reader ∷ readers) (tree ∷ trees) =
    leaf_deps Later model reader tree ++ flow_from model readers trees

-- those of all reads of a model
abbrev pub flow_of : KernelModel → List Tree → List Dependence
flow_of model trees = flow_from model (read_sides_in model) trees

-- a source is told
abbrev pub IsResolved : ReadSource → Type 0
IsResolved (source.Resolved quast) = ⊤
IsResolved (source.Unresolved stop) = ⊥

-- the tree of a source; one that is not told has no leaves
abbrev pub tree_in : ReadSource → Tree
tree_in (source.Resolved quast) = tree_of quast
tree_in (source.Unresolved stop) = initial

-- one source is the last writers of a read, in some budget
abbrev pub IsLastSource : KernelModel → Side → ReadSource → Type 0
IsLastSource model reader from =
    (budget : ℕ) × IsSourceOf Later model budget reader.statement.number reader.number from

-- the sources are the last writers of these reads, in some budget
abbrev pub AreLastSourcesOf : KernelModel → List (ℕ × ℕ) → List ReadSource → Type 0
AreLastSourcesOf model reads sources = (budget : ℕ) × AreSources Later model budget reads sources

-- they are those of all reads of a model
abbrev pub AreLastSources : KernelModel → List ReadSource → Type 0
AreLastSources model sources = AreLastSourcesOf model (reads_of model) sources

-- there is a tree for each read, and each is the end of its read's run
abbrev pub AreLastTrees : KernelModel → ℕ → List (ℕ × ℕ) → List Tree → Type 0
AreLastTrees model budget [] [] = ⊤
AreLastTrees model budget [] (t ∷ ts) = ⊥
AreLastTrees model budget (r ∷ rs) [] = ⊥
AreLastTrees model budget (r ∷ rs) (t ∷ ts) =
    (writers_run Later model budget r.0 r.1 ≡ Ok t) × AreLastTrees model budget rs ts

-- of two instances some read of the later has the earlier as its last writer
abbrev pub ReadsFrom : List Visit → Instance → Instance → Type 0
ReadsFrom visits x y = (statement : ℕ) × (r : ℕ) × IsCoverOf Later visits statement (suc r) x y
