use Rattle.dataflow.proofs.Common.{◌+◌, ◌∙◌, ℕ, ap, ap₂, subst, sym, member_at, is_candidate}
use Rattle.dataflow.proofs.CandidateRuns.{Running, numbers_are, run_begins, run_on, run_past}
use Rattle.dataflow.proofs.UnmarkedConflicts.{candidates_held}
use Rattle.dataflow.proofs.reads.candidates_joined.Goals.{then-is_candidate+in-Ok-joined, else-is_candidate}
use Rattle.dataflow.proofs.reads.candidates_joined.Goals as goal

pub loop-dep-init : goal.loop-dep-init
loop-dep-init c =
    let k = c.requires.kernel in
    run_begins c.args.way c.args.model.now c.args.budget c.args.access c.args.statement.now c.args.deps.now
    c.in-Ok.found
    (numbers_are k.0 c.args.model.now k.1 k.2 (c.statements_are_numbered.ensures.same k.0)
    (c.statements_are_numbered.ensures.number k.0)) c.requires.statement
    (c.in-Ok.ensures.parameters
    ∙ ap₂ (λ (m d : ℕ). m + d) c.parameters.ensures.parameters c.loops.ensures.dimensions)
    c.in-Ok.ensures.tree
    (candidates_held c.args.way c.args.model.now c.args.statement.now.number c.args.access c.args.deps.now
    c.requires.deps)

pub joined-requires-clause-dep : goal.joined-requires-clause-dep
joined-requires-clause-dep c =
    c.requires.deps.among c.dep-item.result
    (member_at c.args.deps.now c.loop-dep.dep-index c.dep-item.result c.dep-item.is c.loop-dep-test.true)

pub loop-dep-preserved : goal.loop-dep-preserved
loop-dep-preserved c =
    let model = c.args.model.now in
    let number = c.args.statement.now.number in
    let deps = c.args.deps.now in
    let i = c.loop-dep.dep-index in
    let dep = c.dep-item.result in
    let same = c.is_candidate.ensures ∙ ap (λ (k : ℕ). is_candidate c.args.way k c.args.access dep) c.number.ensures in
    let Next = Running c.args.way model c.args.budget number c.args.access deps (i + 1) in
    elim c.if-is_candidate.branch [
      | then-is_candidate+in-Ok-joined w ↦ subst Next (sym w.found-is)
          (run_on c.args.way model c.args.budget number c.args.access deps i c.loop-dep.found w.in-Ok-joined.next dep
          c.loop-dep.invariant c.dep-item.is c.loop-dep-test.true (sym same ∙ w.if-is_candidate.true)
          w.in-Ok-joined.ensures)
      | else-is_candidate w ↦ subst Next (sym w.found-is)
          (run_past c.args.way model c.args.budget number c.args.access deps i c.loop-dep.found dep c.loop-dep.invariant
          c.dep-item.is c.loop-dep-test.true (sym same ∙ w.if-is_candidate.false))
    ]
