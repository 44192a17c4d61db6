use Rattle.dataflow.proofs.Common.{subst, sym, tree_of, IsKernelModel, one_model, side_of}
use Rattle.dataflow.specs.Flow.{IsLastSource}
use Rattle.dataflow.proofs.FlowReads.{source_tells}
use Rattle.dataflow.proofs.TellableSources.{loops_are}
use Rattle.dataflow.proofs.flow_deps.push_source.Goals as goal

pub push_leaves-requires-clause-leaves : goal.push_leaves-requires-clause-leaves
push_leaves-requires-clause-leaves c =
    let model = c.args.model.now in
    let reader = side_of c.args.reader.now in
    let k = c.requires.kernel in
    let numbered = c.statements_are_numbered.ensures in
    let from = subst (IsLastSource model reader) c.in-Resolved.is c.requires.source in
    source_tells model from.0 reader (tree_of c.in-Resolved.quast)
    (subst IsKernelModel (sym k.2) (one_model k.0 k.1 (numbered.same k.0) (numbered.number k.0)))
    (loops_are k.0 model k.2 (numbered.loops k.0)) c.requires.reader.statement from.1
