use Rattle.scop_syntax.proofs.Common.{◌+◌, ◌≤◌}
use Rattle.stmt_graph.proofs.ComponentNumbers.{IsPartial, unnumbered}
use Rattle.stmt_graph.proofs.numbers.components.Given as goal

abbrev pub invariant-loop-k : goal.invariant-loop-k
invariant-loop-k l =
    IsPartial l.n l.edges l.k l.numbers.items × ((unnumbered l.n l.numbers.items + l.k) ≤ l.n)
