use Rattle.whole_numbers.proofs.Common.{ℕ, IsGcd}
use Rattle.wide_math.proofs.divisors.gcd_of_sizes.Given as goal

abbrev pub invariant-loop-y : goal.invariant-loop-y
invariant-loop-y l = (g : ℕ) → IsGcd l.x l.y g → IsGcd l.fn.x l.fn.y g

abbrev pub decreases-loop-y : goal.decreases-loop-y
decreases-loop-y l = l.y
