-- What is put so far, and the times to come, are all of them.
use Rattle.scop_syntax.proofs.Common.{◌≡◌, ◌-◌, ◌++◌}
use Rattle.c_printer.specs.Nodes.{repeated}
use Rattle.c_printer.proofs.texts.put_repeated.Given as goal

abbrev pub invariant-loop-at : goal.invariant-loop-at
invariant-loop-at l = l.out.items ++ repeated l.bytes (l.count - l.at) ≡ l.fn.out.items ++ repeated l.bytes l.count
