use Rattle.scop_syntax.proofs.Common.{subst}
use Rattle.integer_sets.specs.Constraints.{Constraints, IsSized, variables_in}
use Rattle.iteration_domains.proofs.AddedConstraints.{row_sized}
use Rattle.iteration_domains.proofs.dep.with_row.Goals as goal

pub from_parts-requires : goal.from_parts-requires
from_parts-requires c =
    let parts = c.into_parts-equalities.ensures in
    let sized = subst (λ (s : Constraints). IsSized (variables_in s) c.into_parts-equalities.result.0.items
    c.into_parts-equalities.result.1.items) c.in_ok-copied.ensures parts.sized in
    record {
      sized = rw (c.dimensions.ensures, c.parameters.ensures)
          (row_sized _ _ _ _ c.args.form sized c.in_ok-push.ensures.pushed c.requires);
    }

pub returns : goal.returns
returns c =
    let parts = c.into_parts-equalities.ensures in
    rw (
      c.dimensions.ensures,
      c.parameters.ensures,
      c.in_ok-push.ensures.pushed,
      parts.equalities,
      parts.rows,
      c.in_ok-copied.ensures,
    ) at c.from_parts.ensures
