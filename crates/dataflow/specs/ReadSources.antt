-- What a read's source says of the run over its candidates.
use Rattle.std.specs.Prelude.{◌≡◌, ℕ, zero, suc, ◌+◌, ◌-◌, ◌++◌, ℤ, List, [], ◌∷◌, Result, Ok, Err, Some}
use Rattle.std.specs.Prelude.{length, slice_get, ⊤}
use Rattle.tableau_rows.specs.Run as run
use Rattle.pip_solver.specs.declared.stop.Stop.TheVariants as solver
use Rattle.quast_trees.specs.Tree.{Tree}
use Rattle.quast_trees.specs.Value.{value}
use Rattle.quast_trees.specs.Postfix.{Postfix, tree_of}
use Rattle.quast_joins.specs.Counts.{capped}
use Rattle.quast_joins.specs.Limits.{most_told}
use Rattle.quast_joins.specs.declared.way.Way.{Way}
use Rattle.quast_joins.specs.declared.way.Way.TheVariants.{Later, Earlier}
use Rattle.scop_syntax.specs.Cells.{Cell}
use Rattle.scop_syntax.specs.Limits.{HasParameters}
use Rattle.scop_syntax.specs.Tree.{Program}
use Rattle.scop_syntax.specs.Walk.{Visit, walk_of}
use Rattle.iteration_domains.specs.Model.{Modelled, KernelModel, model_of}
use Rattle.conflict_deps.specs.Pairs.{TouchesAt}
use Rattle.dataflow.specs.Places.{Names}
use Rattle.dataflow.specs.Posed.{IsPosedOf}
use Rattle.dataflow.specs.Runs.{Halt, posed, nodes}
use Rattle.dataflow.specs.Sources.{wanted_writer}
use Rattle.dataflow.specs.WriterRuns as writer
use Rattle.dataflow.specs.WriterRuns.{Stopped, writers_run}
use Rattle.dataflow.specs.declared.source.ReadSource.{ReadSource}
use Rattle.dataflow.specs.declared.source.ReadSource.TheVariants as source
use Rattle.dataflow.specs.declared.source.SourceStop.{SourceStop}
use Rattle.dataflow.specs.declared.source.SourceStop.TheVariants as stop

-- a stop tells the problem of the candidate that is not solved, and the moves made: 0 where only a leaf is too wide
abbrev pub TellsStop : Way → KernelModel → ℕ → solver.the_data → Stopped → Type 0
TellsStop way model budget (solver.Wide told moves) (writer.solver dep (run.wide w left)) =
    (moves + left ≡ budget) × IsPosedOf way model dep told
TellsStop way model budget (solver.Wide told moves) (writer.wide_leaf dep) =
    (moves ≡ 0) × IsPosedOf way model dep told
TellsStop way model budget (solver.Spent told moves) (writer.solver dep run.spent) =
    (moves ≡ budget) × IsPosedOf way model dep told
TellsStop way model budget _ _ = ⊥

-- why an access is unresolved
abbrev pub Unresolves : Way → KernelModel → ℕ → SourceStop → Result Tree (Halt Stopped) → Type 0
Unresolves way model budget (stop.Solver told) r =
    (why : Stopped) × (r ≡ Err (posed why)) × TellsStop way model budget told why
Unresolves way model budget (stop.Join told) r = (k : ℕ) × (r ≡ Err (nodes k)) × (told ≡ capped most_told k)

-- an access's source is the end of its run
abbrev pub IsSourceOf : Way → KernelModel → ℕ → ℕ → ℕ → ReadSource → Type 0
IsSourceOf way model budget statement access (source.Resolved quast) =
    writers_run way model budget statement access ≡ Ok (tree_of quast)
IsSourceOf way model budget statement access (source.Unresolved told) =
    Unresolves way model budget told (writers_run way model budget statement access)

-- the reads of a statement, by its number and theirs, from k on
abbrev pub reads_from : ℕ → ℕ → ℕ → List (ℕ × ℕ)
reads_from statement k zero = []
reads_from statement k (suc n) = (statement, k) ∷ reads_from statement (k + 1) n

-- all reads of a statement: access 0 is written, the reads are numbered from 1
abbrev pub reads_of_statement : Modelled → List (ℕ × ℕ)
reads_of_statement s = reads_from s.number 1 (length s.accesses - 1)

-- those of statements, one after another
abbrev pub reads_in : List Modelled → List (ℕ × ℕ)
reads_in [] = []
reads_in (s ∷ ss) = reads_of_statement s ++ reads_in ss

-- all reads of a model, by statement and read
abbrev pub reads_of : KernelModel → List (ℕ × ℕ)
reads_of model = reads_in model.statements

-- there is a source for each read, and each is that of its read
abbrev pub AreSources : Way → KernelModel → ℕ → List (ℕ × ℕ) → List ReadSource → Type 0
AreSources way model budget [] [] = ⊤
AreSources way model budget [] (s ∷ ss) = ⊥
AreSources way model budget (r ∷ rs) [] = ⊥
AreSources way model budget (r ∷ rs) (s ∷ ss) =
    IsSourceOf way model budget r.0 r.1 s × AreSources way model budget rs ss

-- where a read is resolved, its quast names at each walked instance the wanted writer of the cell that it touches: its
-- statement and turns, or the initial value where nothing writes the cell before it, or behind it
abbrev pub NameWriters : Way → KernelModel → List ReadSource → Type 0
NameWriters way model sources =
    (program : Program) (params : List ℤ) (j : ℕ) (w : Visit) (access : ℕ) (c : Cell) (k : ℕ) (quast : Postfix)
    → model ≡ model_of program → HasParameters program params → TouchesAt program params j w access c
    → slice_get (reads_of model) k ≡ Some (w.number, access) → slice_get sources k ≡ Some (source.Resolved quast)
    → Names (walk_of program params) (value (tree_of quast) (params ++ w.turns))
    (wanted_writer way (walk_of program params) j c)

-- it names the last writer, and the initial value where nothing wrote the cell before
abbrev pub NameLastWriters : KernelModel → List ReadSource → Type 0
NameLastWriters model sources = NameWriters Later model sources

-- it names the next writer, and the initial value where nothing writes the cell behind it
abbrev pub NameNextWriters : KernelModel → List ReadSource → Type 0
NameNextWriters model sources = NameWriters Earlier model sources
