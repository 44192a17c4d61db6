use Rattle.scop_syntax.proofs.Common.{ℕ, ◌<◌}
use Rattle.pluto_search.specs.steps.Shared.{IsInComponent}
use Rattle.pluto_search.proofs.ends.shares_component.Given as goal

abbrev pub invariant-loop-b : goal.invariant-loop-b
invariant-loop-b l = (c : ℕ) → c < l.b → IsInComponent l.numbers l.a c → ⊥
