use Rattle.dataflow.proofs.Common.{ℕ, List, ◌++◌, ◌-◌, length, AreSources, reads_from, reads_of_statement}
use Rattle.dataflow.proofs.CandidateRuns.{Gathered}
use Rattle.dataflow.proofs.reads.push_reads.Given as goal

abbrev pub invariant-loop-access : goal.invariant-loop-access
invariant-loop-access l =
    (reads : List (ℕ × ℕ)) → AreSources l.way l.model l.budget reads l.fn.sources.items
    → Gathered l.way l.model l.budget (reads ++ reads_of_statement l.statement)
    (reads_from l.statement.number l.access (length l.statement.accesses - l.access)) l.sources.items
