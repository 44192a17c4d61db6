use Rattle.whole_numbers.proofs.Common.{◌≡◌, ◌*◌, ◌^◌, ◌+ℤ◌, drop, dot}
use Rattle.null_space.specs.Sizes.{IsWithin}
use Rattle.null_space.proofs.sums.dot.Given as goal

abbrev pub invariant-loop-at : goal.invariant-loop-at
invariant-loop-at l = record {
  so_far : l.sum +ℤ dot (drop l.at l.vector) (drop l.at l.coefficients) ≡ dot l.vector l.coefficients;
  size : IsWithin (l.at * (2 ^ 109 * 2 ^ 14)) l.sum;
}
