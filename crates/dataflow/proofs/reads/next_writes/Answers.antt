use Rattle.scop_syntax.proofs.Common.{IfOk-weaker}
use Rattle.quast_joins.specs.declared.way.Way.TheVariants.{Earlier}
use Rattle.dataflow.proofs.CandidateRuns.{all_named}
use Rattle.dataflow.proofs.reads.next_writes.Goals as goal

pub returns-clause-next : goal.returns-clause-next
returns-clause-next c = IfOk-weaker c.sources_of.result _ _
    (λ v are. all_named Earlier c.args.model.now c.args.budget v.items are
    (c.resolved_reads_have_their_writers.ensures Earlier)) c.sources_of.ensures.sources
