use Rattle.scop_syntax.proofs.Common.{All, drop, pos, ◌≤ℤ◌}
use Rattle.pluto_search.proofs.rows.is_within.Given as goal

abbrev pub invariant-loop-at : goal.invariant-loop-at
invariant-loop-at l =
    All (λ p. All (λ c. c ≤ℤ pos 4096) p.coefficients.items × (p.shift ≤ℤ pos 4096)) (drop l.at l.row.parts.items)
    → All (λ p. All (λ c. c ≤ℤ pos 4096) p.coefficients.items × (p.shift ≤ℤ pos 4096)) l.row.parts.items
