-- A candidate's problem as a value of the solver, and when it can be posed.
use Rattle.std.specs.Prelude.{◌≡◌, ℕ, ◌+◌, ◌^◌, ◌≤◌, All, length, slice_get, Some}
use Rattle.whole_numbers.specs.Affine.{Affine}
use Rattle.integer_sets.specs.Constraints.{variables_in}
use Rattle.pip_solver.specs.Problem.{Problem}
use Rattle.quast_joins.specs.declared.way.Way.{Way}
use Rattle.scop_syntax.specs.Kernel.{IsKernel}
use Rattle.scop_syntax.specs.Tree.{Program}
use Rattle.iteration_domains.specs.Model.{Modelled, KernelModel, model_of}
use Rattle.iteration_domains.specs.Dependence.{Dependence}
use Rattle.iteration_domains.specs.Sizes.{form_size}
use Rattle.dataflow.specs.Problems.{posed_rows, posed_context}
use Rattle.dataflow.specs.Sources.{writer_end, reader_end}

-- the problem of a candidate between the writer s and the reader t, with m parameters
pub record IsPosed (way : Way) (m : ℕ) (s t : Modelled) (dep : Dependence) (problem : Problem) : Type 0 where
  pub unknowns : problem.unknowns ≡ s.domain.dimensions
  pub parameters : problem.parameters ≡ m + t.domain.dimensions
  pub rows : problem.rows.items ≡ posed_rows way s t m dep
  pub context : problem.context.items ≡ posed_context t m

-- the problem of a candidate between the statements at its ends
pub record IsPosedOf (way : Way) (model : KernelModel) (dep : Dependence) (problem : Problem) : Type 0 where
  pub writer : Modelled
  pub reader : Modelled
  pub writes : slice_get model.statements (writer_end way dep).statement ≡ Some writer
  pub reads : slice_get model.statements (reader_end way dep).statement ≡ Some reader
  pub posed : IsPosed way model.parameters writer reader dep problem

-- the model is that of a kernel
abbrev pub IsOfKernel : KernelModel → Type 0
IsOfKernel model = (program : Program) × IsKernel program × (model ≡ model_of program)

-- a form whose numbers lie far within 128 bits
abbrev pub IsSmall : Affine → Type 0
IsSmall f = form_size f ≤ 2 ^ 48

-- a writer s and a reader t of a model with m parameters, and a system of a conflict between them: over their turns and
-- the parameters, with the rows of both domains, and all numbers small
pub record CanPose (m : ℕ) (s t : Modelled) (dep : Dependence) : Type 0 where
  pub few : m ≤ 4
  pub few_turns : s.domain.dimensions ≤ 5
  pub few_reader_turns : t.domain.dimensions ≤ 5
  pub parameters : t.domain.parameters ≡ m
  pub variables : variables_in dep.system ≡ s.domain.dimensions + t.domain.dimensions + m
  pub equalities : length s.domain.equalities + length t.domain.equalities ≤ length dep.system.equalities
  pub rows : length s.domain.rows + length t.domain.rows + m ≤ length dep.system.rows
  pub small_equalities : All IsSmall dep.system.equalities
  pub small_rows : All IsSmall dep.system.rows
  pub small_reader_equalities : All IsSmall t.domain.equalities
  pub small_reader_rows : All IsSmall t.domain.rows
