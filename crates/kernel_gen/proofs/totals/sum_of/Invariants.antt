-- The sum so far and the arrays to come make the whole sum.
use Rattle.scop_syntax.proofs.Common.{◌≡◌, ◌+◌, ◌%◌, ◌^◌, ◌<◌, drop, sum}
use Rattle.std.specs.List.{sum_by}
use Rattle.kernel_gen.specs.Totals.{sum_of}
use Rattle.kernel_gen.proofs.totals.sum_of.Given as goal

abbrev pub invariant-loop-at : goal.invariant-loop-at
invariant-loop-at l = record {
  whole : (l.total + sum_by sum (drop l.at l.arrays)) % 2 ^ 64 ≡ sum_of l.arrays;
  small : l.total < 2 ^ 64;
}
