use Rattle.dataflow.proofs.Common.{drop, reads_in}
use Rattle.dataflow.proofs.CandidateRuns.{Gathered}
use Rattle.dataflow.proofs.reads.sources_of.Given as goal

abbrev pub invariant-loop-statement : goal.invariant-loop-statement
invariant-loop-statement l =
    Gathered l.way l.model l.budget (reads_in l.statement-items) (reads_in (drop l.statement-index l.statement-items))
    l.sources.items
