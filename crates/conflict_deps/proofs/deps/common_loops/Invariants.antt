use Rattle.scop_syntax.proofs.Common.{◌≡◌, ◌+◌, drop, common}
use Rattle.conflict_deps.proofs.deps.common_loops.Given as goal

abbrev pub invariant-loop-at : goal.invariant-loop-at
invariant-loop-at l = l.at + common (drop l.at l.first) (drop l.at l.second) ≡ common l.first l.second
