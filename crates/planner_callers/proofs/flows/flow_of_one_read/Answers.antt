use Rattle.scop_syntax.proofs.Common.{◌∙◌, IfOk-weaker}
use Rattle.planner_callers.proofs.OneRead.{leaves_of}
use Rattle.planner_callers.proofs.flows.flow_of_one_read.Goals as goal

pub returns : goal.returns
returns c = IfOk-weaker c.flow.result _ _
    (λ v deps reader quast one told. deps ∙ leaves_of c.args.model.now reader quast c.args.sources.now one told)
    c.flow.ensures.deps
