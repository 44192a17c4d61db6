use Rattle.scop_syntax.proofs.Common.{◌≡◌, true, All, drop}
use Rattle.stmt_graph.specs.steps.Closure.{at}
use Rattle.stmt_graph.proofs.closure.next_reached.Given as goal

abbrev pub invariant-loop-at : goal.invariant-loop-at
invariant-loop-at l =
    All (λ e. at l.reached e.0 ≡ true → at l.reached e.1 ≡ true) (drop l.at l.edges)
    → All (λ e. at l.reached e.0 ≡ true → at l.reached e.1 ≡ true) l.edges
