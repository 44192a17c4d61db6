use Rattle.scop_syntax.proofs.Common.{IfOk-weaker}
use Rattle.contract_callers.proofs.systems.both_at.Goals as goal

pub returns-clause-points : goal.returns-clause-points
returns-clause-points c = IfOk-weaker c.and.result _ _ (λ both points. points c.args.point.now) c.and.ensures.points
