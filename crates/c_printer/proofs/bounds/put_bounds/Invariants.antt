-- What is put so far, the bounds to come and the parentheses that close the choices are all of them.
use Rattle.scop_syntax.proofs.Common.{◌≡◌, ◌++◌, drop, map, codes}
use Rattle.loop_tree.specs.Tree.{bounds_of}
use Rattle.loop_tree.specs.View.{bounds_in}
use Rattle.c_printer.specs.Nodes.{bounds_text, repeated}
use Rattle.c_printer.proofs.bounds.put_bounds.Given as goal

abbrev pub invariant-loop-at : goal.invariant-loop-at
invariant-loop-at l = l.out.items ++ (bounds_text l.divided l.chosen (map (λ n. n.items) l.names) l.loops
    (bounds_of l.bound (drop l.at l.bounds.others.items)) ++ repeated (codes ")") l.at)
    ≡ l.fn.out.items ++ bounds_text l.divided l.chosen (map (λ n. n.items) l.names) l.loops (bounds_in l.bounds)
