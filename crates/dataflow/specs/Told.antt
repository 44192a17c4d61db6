-- What the sources of a kernel's reads are made of, whatever they say: forms over the variables that stand at their
-- places, leaves that are instances of the kernel's statements.
use Rattle.std.specs.Prelude.{◌≡◌, ℕ, ◌+◌, ◌^◌, ◌<◌, ◌≤◌, List, [], ◌∷◌, length, ⊤, Option, Some, None, slice_get}
use Rattle.pip_solver.specs.declared.stop.Stop.TheVariants as solver
use Rattle.quast_trees.specs.Source.{Source}
use Rattle.quast_trees.specs.Tree.{Tree, count, Speaks}
use Rattle.quast_trees.specs.Postfix.{tree_of}
use Rattle.quast_joins.specs.Counts.{HasForms}
use Rattle.quast_joins.specs.Leaves.{LeavesAre}
use Rattle.quast_joins.specs.Limits.{node_limit}
use Rattle.iteration_domains.specs.Model.{Modelled, KernelModel}
use Rattle.dataflow.specs.declared.source.ReadSource.{ReadSource}
use Rattle.dataflow.specs.declared.source.ReadSource.TheVariants as source
use Rattle.dataflow.specs.declared.source.SourceStop.TheVariants as stop

-- a leaf's source is a statement of the model, with the loops round it
abbrev pub IsInstance : KernelModel → Option Source → Type 0
IsInstance model None = ⊥
IsInstance model (Some s) = (t : Modelled) × (slice_get model.statements s.statement ≡ Some t) × (s.loops ≡ t.loops)

-- each leaf of forms has such a source
abbrev pub NamesInstances : KernelModel → Tree → Type 0
NamesInstances model tree = LeavesAre (λ l. IsInstance model l.source) tree

-- a quast over n variables, of few nodes, whose leaves are instances, with a form for each loop
pub record IsQuastOver (model : KernelModel) (n : ℕ) (tree : Tree) : Type 0 where
  pub speaks : Speaks n tree
  pub leaves : NamesInstances model tree
  pub forms : HasForms tree
  pub few : count tree ≤ node_limit

-- why a candidate's problem stops, with moves of 64 bits: never for want of memory
abbrev pub IsToldStop : solver.the_data → Type 0
IsToldStop (solver.Wide told moves) = ⊤
IsToldStop (solver.Spent told moves) = moves < 2 ^ 64
IsToldStop solver.NoMemory = ⊥

-- a source over n variables
abbrev pub IsToldOver : KernelModel → ℕ → ReadSource → Type 0
IsToldOver model n (source.Resolved quast) = IsQuastOver model n (tree_of quast)
IsToldOver model n (source.Unresolved (stop.Solver told)) = IsToldStop told
IsToldOver model n (source.Unresolved (stop.Join nodes)) = nodes < 2 ^ 128

-- a source of a read of a statement: over the kernel's parameters and the turns of the loops round it
abbrev pub IsToldAt : KernelModel → Option Modelled → ReadSource → Type 0
IsToldAt model None from = ⊥
IsToldAt model (Some s) from = IsToldOver model (model.parameters + length s.loops) from

-- there is such a source for each read
abbrev pub AreTold : KernelModel → List (ℕ × ℕ) → List ReadSource → Type 0
AreTold model [] [] = ⊤
AreTold model [] (s ∷ ss) = ⊥
AreTold model (r ∷ rs) [] = ⊥
AreTold model (r ∷ rs) (s ∷ ss) = IsToldAt model (slice_get model.statements r.0) s × AreTold model rs ss
