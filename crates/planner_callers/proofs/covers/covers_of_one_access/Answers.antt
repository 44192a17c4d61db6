use Rattle.scop_syntax.proofs.Common.{◌∙◌, Ok, Err, IfOk-weaker}
use Rattle.planner_callers.proofs.OneAccess.{none_of, told_of}
use Rattle.planner_callers.proofs.covers.covers_of_one_access.Goals as goal

pub returns-clause-told : goal.returns-clause-told
returns-clause-told c = IfOk-weaker c.covering.result _ _
    (λ v deps s t one written free run. deps
    ∙ told_of 0 c.args.marked.now c.args.model.now s (Ok t) one written free run)
    c.covering.ensures.deps

pub returns-clause-stopped : goal.returns-clause-stopped
returns-clause-stopped c = IfOk-weaker c.covering.result _ _
    (λ v deps s stop one written free run. deps
    ∙ told_of 0 c.args.marked.now c.args.model.now s (Err stop) one written free run)
    c.covering.ensures.deps

pub returns-clause-marked : goal.returns-clause-marked
returns-clause-marked c = IfOk-weaker c.covering.result _ _
    (λ v deps s one marks. deps ∙ none_of 0 c.args.marked.now c.args.model.now s one marks) c.covering.ensures.deps
