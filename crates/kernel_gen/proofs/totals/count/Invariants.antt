-- The cells so far and those to come are all cells.
use Rattle.scop_syntax.proofs.Common.{◌≡◌, ◌+◌, drop}
use Rattle.kernel_gen.specs.Totals.{cells_in}
use Rattle.kernel_gen.proofs.totals.count.Given as goal

abbrev pub invariant-loop-at : goal.invariant-loop-at
invariant-loop-at l = l.count + cells_in (drop l.at l.arrays) ≡ cells_in l.arrays
