use Rattle.dataflow.proofs.CandidateRuns.{Running}
use Rattle.dataflow.proofs.reads.candidates_joined.Given as goal

abbrev pub invariant-loop-dep : goal.invariant-loop-dep
invariant-loop-dep l = Running l.way l.model l.budget l.statement.number l.access l.deps l.dep-index l.found
