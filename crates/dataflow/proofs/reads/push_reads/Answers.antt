use Rattle.dataflow.proofs.Common.{◌++◌, ◌<◌, ℕ, ap, length, subst, reads_of_statement}
use Rattle.dataflow.proofs.CandidateRuns.{read_gathered}
use Rattle.dataflow.proofs.UnmarkedConflicts.{all_held}
use Rattle.dataflow.proofs.reads.push_reads.Goals as goal

pub source_of-requires-clause-deps : goal.source_of-requires-clause-deps
source_of-requires-clause-deps c =
    all_held c.args.way c.args.model.now c.args.statement.now.number c.loop-access.access c.args.deps.now
    c.requires.deps

pub loop-access-preserved : goal.loop-access-preserved
loop-access-preserved c =
    let s = c.args.statement.now in
    let new = c.in_ok-source.source in
    let old = c.loop-access.sources.items in
    let less = subst (λ (n : ℕ). c.loop-access.access < n) (ap length c.accesses-access-end.ensures.accesses)
    c.loop-access-test.true in
    λ reads are. read_gathered c.args.way c.args.model.now c.args.budget s.number c.loop-access.access
    (length s.accesses) (reads ++ reads_of_statement s) old c.push.new.list.items new less
    (c.loop-access.invariant reads are) c.in_ok-source.ensures.run c.in_ok-push.ensures.pushed
