use Rattle.scop_syntax.proofs.Common.{◌≡◌, ◌++◌, map, drop, composed}
use Rattle.iteration_domains.proofs.accesses.subscripts_within.Given as goal

abbrev pub invariant-loop-subscript : goal.invariant-loop-subscript
invariant-loop-subscript l =
    l.composed.items ++ map (λ form. composed form l.forms l.variables) (drop l.subscript-index l.subscripts)
    ≡ map (λ form. composed form l.forms l.variables) l.subscripts
