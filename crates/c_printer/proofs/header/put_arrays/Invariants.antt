-- What is put so far, and the arrays to come, are all of them, whatever stands behind.
use Rattle.scop_syntax.proofs.Common.{◌≡◌, ◌++◌, drop, map, List}
use Rattle.scop_lexer.specs.Bytes.{Text}
use Rattle.c_printer.specs.Statements.{arrays_behind, listed}
use Rattle.c_printer.proofs.header.put_arrays.Given as goal

abbrev pub invariant-loop-array : goal.invariant-loop-array
invariant-loop-array l = (others : List Text) → l.out.items ++ listed l.first
    (arrays_behind (map (λ n. n.items) l.kernel.parameters.items) l.behind
    (drop l.array-index l.kernel.arrays.items) ++ others)
    ≡ l.fn.out.items ++ listed l.start
    (arrays_behind (map (λ n. n.items) l.kernel.parameters.items) l.behind l.kernel.arrays.items ++ others)
