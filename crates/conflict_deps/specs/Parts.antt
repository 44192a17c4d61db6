-- The parts of a conflict's system: both domains, the subscripts, the order, the parameters.
use Rattle.std.specs.Prelude.{◌≡◌, ◌+◌, ◌++◌, map, slice_get, Some}
use Rattle.iteration_domains.specs.Rows.{variables}
use Rattle.iteration_domains.specs.Constraints.{equalities_in, rows_in}
use Rattle.iteration_domains.specs.Model.{KernelModel}
use Rattle.iteration_domains.specs.Dependence.{Dependence}
use Rattle.conflict_deps.specs.Conflicts.{Side, After, loops_of, source_form, target_form, cell_rows, dep_of}
use Rattle.conflict_deps.specs.Conflicts.{pair_size}

-- a dependence of a model is put together from two accesses and an order; its equalities and rows are those of the
-- source's domain, of the target's, of the subscripts and of the order, and that no parameter is negative
pub record HasParts (model : KernelModel) (dep : Dependence) : Type 0 where
  pub from : Side
  pub to : Side
  pub order : After
  pub is : dep ≡ dep_of model.parameters from to order
  pub source : slice_get model.statements dep.source.statement ≡ Some from.statement
  pub target : slice_get model.statements dep.target.statement ≡ Some to.statement
  pub equalities : dep.system.equalities
      ≡ map (source_form (loops_of from) (loops_of to)) from.statement.domain.equalities
      ++ (map (target_form (loops_of from)) to.statement.domain.equalities
      ++ (equalities_in (cell_rows from to) ++ equalities_in order.rows))
  pub rows : dep.system.rows
      ≡ map (source_form (loops_of from) (loops_of to)) from.statement.domain.rows
      ++ (map (target_form (loops_of from)) to.statement.domain.rows
      ++ (rows_in order.rows
      ++ variables (pair_size model.parameters from to) (loops_of from + loops_of to) model.parameters))
