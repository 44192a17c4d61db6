use Rattle.scop_syntax.proofs.Common.{◌≡◌, ◌++◌, ◌≤◌, drop, map, All}
use Rattle.pluto_systems.proofs.vectors.loops_in.Given as goal

abbrev pub invariant-loop-statement : goal.invariant-loop-statement
invariant-loop-statement l =
    (l.loops.items ++ map (λ s. s.domain.dimensions) (drop l.statement-index l.statement-items)
    ≡ map (λ s. s.domain.dimensions) l.statement-items)
    × All (λ n. n ≤ 5) l.loops.items
