-- The names so far and those to come are all names.
use Rattle.scop_syntax.proofs.Common.{◌≡◌, ◌++◌, drop, map}
use Rattle.kernel_gen.proofs.parts.names.Given as goal

abbrev pub invariant-loop-at : goal.invariant-loop-at
invariant-loop-at l =
    map (λ n. n.items) l.names.items ++ map (λ t. t.now) (drop l.at l.texts) ≡ map (λ t. t.now) l.texts
