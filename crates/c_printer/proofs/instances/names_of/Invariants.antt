-- The names so far, and the iterators to come, are all of them.
use Rattle.scop_syntax.proofs.Common.{◌≡◌, ◌++◌, drop, map}
use Rattle.c_printer.specs.Naming.{iterators_of}
use Rattle.c_printer.proofs.instances.names_of.Given as goal

abbrev pub invariant-loop-at : goal.invariant-loop-at
invariant-loop-at l = map (λ n. n.items) l.names.items ++ iterators_of (map (λ h. h.now) (drop l.at l.heads))
    ≡ map (λ n. n.items) l.parameters ++ iterators_of (map (λ h. h.now) l.heads)
