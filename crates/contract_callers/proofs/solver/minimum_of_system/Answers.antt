use Rattle.scop_syntax.proofs.Common.{subst, IfOk-weaker}
use Rattle.pip_solver.specs.Minimum.{IsMinimum}
use Rattle.contract_callers.proofs.solver.minimum_of_system.Goals as goal

pub returns-clause-minimum : goal.returns-clause-minimum
returns-clause-minimum c = IfOk-weaker c.least_point_in.result _ _
    (λ found least none. subst (IsMinimum c.args.system.now) none least) c.least_point_in.ensures.minimum
