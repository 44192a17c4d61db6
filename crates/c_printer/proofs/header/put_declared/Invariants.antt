-- What is put so far, and the declarations to come, are all of them.
use Rattle.scop_syntax.proofs.Common.{◌≡◌, ◌++◌, drop, map, true}
use Rattle.c_printer.specs.Statements.{declared_from, listed}
use Rattle.c_printer.proofs.header.put_declared.Given as goal

abbrev pub invariant-loop-at : goal.invariant-loop-at
invariant-loop-at l = l.out.items ++ listed l.first (declared_from (map (λ n. n.items) l.kernel.parameters.items)
    l.kernel.arrays.items l.at (drop l.at (map (λ n. n.items) l.kernel.parameters.items)))
    ≡ l.fn.out.items ++ listed true (declared_from (map (λ n. n.items) l.kernel.parameters.items)
    l.kernel.arrays.items 0 (map (λ n. n.items) l.kernel.parameters.items))
