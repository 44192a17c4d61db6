use Rattle.scop_syntax.proofs.Common.{◌≡◌, ◌++◌, drop}
use Rattle.pluto_search.specs.steps.Steps.{state_of}
use Rattle.pluto_search.proofs.ends.remaining.Given as goal

abbrev pub invariant-loop-at : goal.invariant-loop-at
invariant-loop-at l = l.deps.items ++ drop l.at l.progress.bare.items ≡ (state_of l.progress).remaining
