use Rattle.scop_syntax.proofs.Common.{◌≡◌, ◌++◌, drop, map}
use Rattle.plan_check.proofs.checking.loops_in.Given as goal

abbrev pub invariant-loop-statement : goal.invariant-loop-statement
invariant-loop-statement l =
    l.loops.items ++ map (λ s. s.domain.dimensions) (drop l.statement-index l.statement-items)
    ≡ map (λ s. s.domain.dimensions) l.statement-items
