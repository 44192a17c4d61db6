-- What is put so far, and the iterators to come over the names so far, are all of them.
use Rattle.scop_syntax.proofs.Common.{◌≡◌, ◌++◌, drop, map}
use Rattle.c_printer.specs.Nodes.{givens_text}
use Rattle.c_printer.proofs.instances.put_givens.Given as goal

abbrev pub invariant-loop-at : goal.invariant-loop-at
invariant-loop-at l = l.out.items ++ givens_text l.parameters l.loops (map (λ n. n.items) l.names.items)
    (map (λ h. h.now) (drop l.at l.heads)) (drop l.at l.turns)
    ≡ l.fn.out.items ++ givens_text l.parameters l.loops (map (λ n. n.items) l.fn.names.items)
    (map (λ h. h.now) l.heads) l.turns
