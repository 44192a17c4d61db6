-- The copies so far, and the names to come, are all names.
use Rattle.scop_syntax.proofs.Common.{◌≡◌, ◌++◌, drop, map}
use Rattle.c_printer.proofs.texts.copies.Given as goal

abbrev pub invariant-loop-at : goal.invariant-loop-at
invariant-loop-at l =
    map (λ n. n.items) l.copied.items ++ map (λ n. n.items) (drop l.at l.names) ≡ map (λ n. n.items) l.names
