use Rattle.scop_syntax.proofs.Common.{IfOk-weaker}
use Rattle.quast_joins.specs.declared.way.Way.TheVariants.{Later}
use Rattle.dataflow.proofs.CandidateRuns.{all_named}
use Rattle.dataflow.proofs.reads.last_writes.Goals as goal

pub returns-clause-last : goal.returns-clause-last
returns-clause-last c = IfOk-weaker c.sources_of.result _ _
    (λ v are. all_named Later c.args.model.now c.args.budget v.items are
    (c.resolved_reads_have_their_writers.ensures Later)) c.sources_of.ensures.sources
