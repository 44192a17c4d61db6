use Rattle.scop_syntax.proofs.Common.{[], IfOk-weaker}
use Rattle.contract_callers.proofs.dependence_rows.rows_that_bound.Goals as goal

pub returns-clause-farkas : goal.returns-clause-farkas
returns-clause-farkas c = IfOk-weaker c.bounded_rows.result _ _
    (λ rows is unknowns size signs taken. (is.exact unknowns size signs).0 taken) c.bounded_rows.ensures.farkas

pub returns-clause-bounds : goal.returns-clause-bounds
returns-clause-bounds c = IfOk-weaker c.bounded_rows.result _ _
    (λ rows holds unknowns i j. holds unknowns i j []) c.bounded_rows.ensures.bounds
