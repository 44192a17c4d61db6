use Rattle.dataflow.proofs.Common.{◌≡◌, ◌++◌, drop, is_in_role, chosen_deps}
use Rattle.dataflow.proofs.covers.push_conflicts.Given as goal

abbrev pub invariant-loop-dep : goal.invariant-loop-dep
invariant-loop-dep l =
    l.out.items ++ chosen_deps (is_in_role l.way l.statement l.access) (drop l.dep-index l.deps)
    ≡ l.fn.out.items ++ chosen_deps (is_in_role l.way l.statement l.access) l.deps
