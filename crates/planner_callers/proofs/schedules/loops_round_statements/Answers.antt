use Rattle.scop_syntax.proofs.Common.{◌≡◌, map, subst, IfOk-weaker}
use Rattle.planner_callers.proofs.schedules.loops_round_statements.Goals as goal

pub returns-clause-loops : goal.returns-clause-loops
returns-clause-loops c = IfOk-weaker c.loops_in.result _ _
    (λ v are none. subst (λ ss. v.items ≡ map (λ s. s.domain.dimensions) ss) none are) c.loops_in.ensures.loops
