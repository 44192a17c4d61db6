use Rattle.std.proofs.Common.{◌≡◌, length}
use Rattle.scop_expressions.specs.Machine.{reduced}
use Rattle.scop_expressions.proofs.reader.reduce.Given as goal

abbrev pub invariant-loop-top : goal.invariant-loop-top
invariant-loop-top l = reduced l.least l.held l.nodes.items ≡ reduced l.fn.least l.fn.held l.fn.nodes.items

abbrev pub decreases-loop-top : goal.decreases-loop-top
decreases-loop-top l = length l.held
