-- What the parts of the work promise.
use Rattle.std.specs.Prelude.{◌≡◌, ℕ, Bool, true, false, ℤ, List, [], ◌∷◌, ◌++◌, Option, Some, None, Result, Ok, Err, ⊤}
use Rattle.std.specs.Prelude.{if◌then◌else◌}
use Rattle.pip_solver.specs.declared.stop.Stop.TheVariants as solver
use Rattle.quast_trees.specs.Tree.{Tree}
use Rattle.quast_trees.specs.Postfix.{Postfix, tree_of}
use Rattle.quast_trees.specs.declared.node.Node.{Node}
use Rattle.quast_trees.specs.declared.node.Node.TheVariants as node
use Rattle.quast_joins.specs.Limits.{leaf_limit}
use Rattle.quast_joins.specs.Sizes.{LeavesWithin}
use Rattle.quast_joins.specs.declared.way.Way.{Way}
use Rattle.iteration_domains.specs.Model.{KernelModel}
use Rattle.iteration_domains.specs.Dependence.{Dependence}
use Rattle.dataflow.specs.ReadSources.{TellsStop, Unresolves, AreSources}
use Rattle.dataflow.specs.Runs.{sources_run}
use Rattle.dataflow.specs.Sources.{reader_end}
use Rattle.dataflow.specs.WriterRuns.{Stopped, forms_fit, solve_run, read_variables}
use Rattle.dataflow.specs.declared.reads.Halted.TheVariants as halt
use Rattle.dataflow.specs.declared.source.ReadSource.{ReadSource}

-- whether each number of a node's forms, if it is a leaf's, fits
abbrev pub node_fits : ℤ → Node → Bool
node_fits most (node.Forms l) = forms_fit most l.forms
node_fits most _ = true

-- whether those of each node do
abbrev pub nodes_fit : ℤ → List Node → Bool
nodes_fit most [] = true
nodes_fit most (n ∷ ns) = if node_fits most n then nodes_fit most ns else false

-- a tree, where a quast is held
abbrev pub tree_held : Option Postfix → Option Tree
tree_held None = None
tree_held (Some quast) = Some (tree_of quast)

-- a held quast is over n parameters
abbrev pub HeldOver : ℕ → Option Postfix → Type 0
HeldOver n None = ⊤
HeldOver n (Some quast) = quast.parameters ≡ n

-- a quast over n parameters whose leaves' numbers are at most 2^125, as the next join asks
pub record IsJoinable (n : ℕ) (quast : Postfix) : Type 0 where
  pub parameters : quast.parameters ≡ n
  pub leaves : LeavesWithin leaf_limit (tree_of quast)

-- a stop of the solver tells a candidate's; want of memory is free
abbrev pub IsToldAs : Way → KernelModel → ℕ → solver.the_data → Stopped → Type 0
IsToldAs way model budget solver.NoMemory why = ⊤
IsToldAs way model budget stop why = TellsStop way model budget stop why

-- a candidate's quast is its run's, or a stop tells the run's; want of memory is free
abbrev pub Solves : Way → KernelModel → ℕ → Dependence → Result Postfix solver.the_data → Type 0
Solves way model budget dep (Ok quast) =
    (solve_run way model budget dep ≡ Ok (tree_of quast))
    × IsJoinable (read_variables model (reader_end way dep).statement) quast
Solves way model budget dep (Err solver.NoMemory) = ⊤
Solves way model budget dep (Err stop) =
    (why : Stopped) × (solve_run way model budget dep ≡ Err why) × TellsStop way model budget stop why

-- the run over a candidate and others goes on from a quast, or ends at a stop; want of memory is free
abbrev pub GoesOn : Way → KernelModel → ℕ → ℕ → Tree → Dependence → Result Postfix halt.the_data → Type 0
GoesOn way model budget n first dep (Ok quast) =
    IsJoinable n quast
    × ((deps : List Dependence) → sources_run way n (solve_run way model budget) first (dep ∷ deps)
    ≡ sources_run way n (solve_run way model budget) (tree_of quast) deps)
GoesOn way model budget n first dep (Err (halt.Stop told)) =
    (deps : List Dependence)
    → Unresolves way model budget told (sources_run way n (solve_run way model budget) first (dep ∷ deps))
GoesOn way model budget n first dep (Err halt.NoMemory) = ⊤

-- sources gain those of more reads
abbrev pub GainsSources : Way → KernelModel → ℕ → List ReadSource → List ReadSource → List (ℕ × ℕ) → Type 0
GainsSources way model budget old new gains =
    (reads : List (ℕ × ℕ)) → AreSources way model budget reads old → AreSources way model budget (reads ++ gains) new
