-- The dependences that hold each access with its last writer and each read with its next writer.
use Rattle.std.specs.Prelude.{◌≡◌, ℕ, Bool, false, List, [], ◌++◌, nat_eq, if◌then◌else◌, Result, Ok, Err}
use Rattle.std.specs.Prelude.{Some, slice_get}
use Rattle.std.specs.List.{flat_map}
use Rattle.quast_trees.specs.Tree.{Tree}
use Rattle.scop_syntax.specs.Members.{In}
use Rattle.scop_syntax.specs.Reductions.{is_marked}
use Rattle.quast_joins.specs.declared.way.Way.{Way}
use Rattle.quast_joins.specs.declared.way.Way.TheVariants.{Later, Earlier}
use Rattle.iteration_domains.specs.Model.{Modelled, KernelModel}
use Rattle.iteration_domains.specs.Dependence.{Dependence, IsDependence}
use Rattle.conflict_deps.specs.Conflicts.{Side, sides_in, conflicts_of}
use Rattle.dataflow.specs.Sources.{reader_end}
use Rattle.dataflow.specs.WriterRuns.{chosen_deps, writers_run}
use Rattle.dataflow.specs.Leaves.{leaf_deps}

-- whether a dependence has the access as its target, looking back, or as its source, looking on
abbrev pub is_in_role : Way → ℕ → ℕ → Dependence → Bool
is_in_role way statement access dep =
    if nat_eq (reader_end way dep).statement statement then nat_eq (reader_end way dep).access access else false

-- all conflicts with an access in its role, in their order
abbrev pub conflicts_at : Way → KernelModel → ℕ → ℕ → List Dependence
conflicts_at way model statement access = chosen_deps (is_in_role way statement access) (conflicts_of model)

-- the leaves of an access's quast; where its run stops, all conflicts with it in its role stand in their place
abbrev pub told_deps : {E : Type 0} → Way → KernelModel → Side → Result Tree E → List Dependence
told_deps way model reader (Ok tree) = leaf_deps way model reader tree
told_deps way model reader (Err stop) = conflicts_at way model reader.statement.number reader.number

-- an access with its last writers, or its next
abbrev pub role_deps : ℕ → Way → KernelModel → Side → List Dependence
role_deps budget way model reader =
    told_deps way model reader (writers_run way model budget reader.statement.number reader.number)

-- a read with its next writers
abbrev pub next_deps : ℕ → KernelModel → Side → List Dependence
next_deps budget model reader = if nat_eq reader.number 0 then [] else role_deps budget Earlier model reader

-- an access with its last writers, and behind them, where it is a read, its next
abbrev pub roles_at : ℕ → KernelModel → Side → List Dependence
roles_at budget model reader = role_deps budget Later model reader ++ next_deps budget model reader

-- the same of an access to an array that is not marked; of another none
abbrev pub covers_at : ℕ → List ℕ → KernelModel → Side → List Dependence
covers_at budget marked model reader = if is_marked marked reader.access.array then [] else roles_at budget model reader

-- those of all accesses, by statement and access
abbrev pub covers_of : ℕ → List ℕ → KernelModel → List Dependence
covers_of budget marked model = flat_map (covers_at budget marked model) (sides_in model)

-- dependences of a model, and all those with an access in its role, in their order
pub record HoldConflicts (way : Way) (model : KernelModel) (statement access : ℕ) (deps : List Dependence)
    : Type 0 where
  pub among : (d : Dependence) → In d deps → In d (conflicts_of model)
  pub role : chosen_deps (is_in_role way statement access) deps ≡ conflicts_at way model statement access

-- a dependence between two statements of a model, with their numbers of loops, over the model's parameters
pub record LiesBetween (model : KernelModel) (d : Dependence) : Type 0 where
  pub from : Modelled
  pub to : Modelled
  pub source : slice_get model.statements d.source.statement ≡ Some from
  pub target : slice_get model.statements d.target.statement ≡ Some to
  pub source_loops : d.source.loops ≡ from.domain.dimensions
  pub target_loops : d.target.loops ≡ to.domain.dimensions
  pub parameters : d.system.parameters ≡ model.parameters
  pub dependence : IsDependence d
