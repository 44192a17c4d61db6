use Rattle.scop_syntax.proofs.Common.{◌≡◌, ℕ, ◌<◌, ◌≤◌, map, length, if◌then◌else◌}
use Rattle.stmt_graph.specs.Graph.{number_in}
use Rattle.stmt_graph.specs.steps.Closure.{joined}
use Rattle.stmt_graph.proofs.numbers.number_component.Given as goal

abbrev pub invariant-loop-b : goal.invariant-loop-b
invariant-loop-b l =
    (length l.numbers.items ≡ length l.fn.numbers.items)
    × ((b : ℕ) → b < l.b → number_in l.numbers.items b
    ≡ (if joined (map (λ v. v.items) l.rows) l.a b then l.k else number_in l.fn.numbers.items b))
    × ((b : ℕ) → l.b ≤ b → number_in l.numbers.items b ≡ number_in l.fn.numbers.items b)
