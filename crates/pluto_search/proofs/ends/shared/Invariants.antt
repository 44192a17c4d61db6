use Rattle.pluto_search.specs.steps.Shared.{FindsBelow}
use Rattle.pluto_search.proofs.ends.shared.Given as goal

abbrev pub invariant-loop-a : goal.invariant-loop-a
invariant-loop-a l = FindsBelow l.numbers l.a l.least
