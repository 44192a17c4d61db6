use Rattle.dataflow.proofs.Common.{subst, sym, IsKernelModel, one_model}
use Rattle.dataflow.proofs.HeldSources.{flow_between}
use Rattle.dataflow.proofs.cover_laws.flow_lies_between_statements.Goals as goal

pub returns : goal.returns
returns c model trees d k h =
    let numbered = c.statements_are_numbered.ensures in
    flow_between model trees d
    (subst IsKernelModel (sym k.2) (one_model k.0 k.1 (numbered.same k.0) (numbered.number k.0))) h
