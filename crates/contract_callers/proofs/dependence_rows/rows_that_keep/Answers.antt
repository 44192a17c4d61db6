use Rattle.scop_syntax.proofs.Common.{[], IfOk-weaker}
use Rattle.contract_callers.proofs.dependence_rows.rows_that_keep.Goals as goal

pub returns-clause-farkas : goal.returns-clause-farkas
returns-clause-farkas c = IfOk-weaker c.legal_rows.result _ _
    (λ rows is unknowns size signs taken. (is.exact unknowns size signs).0 taken) c.legal_rows.ensures.farkas

pub returns-clause-keeps : goal.returns-clause-keeps
returns-clause-keeps c = IfOk-weaker c.legal_rows.result _ _
    (λ rows holds unknowns i j. holds unknowns i j []) c.legal_rows.ensures.keeps
