use Rattle.dataflow.proofs.Common.{subst, sym, IsKernelModel, one_model}
use Rattle.dataflow.proofs.CoverEnds.{covers_between}
use Rattle.dataflow.proofs.cover_laws.covers_lie_between_statements.Goals as goal

pub returns : goal.returns
returns c model budget marked d k h =
    let numbered = c.statements_are_numbered.ensures in
    covers_between model budget marked d
    (subst IsKernelModel (sym k.2) (one_model k.0 k.1 (numbered.same k.0) (numbered.number k.0))) h
