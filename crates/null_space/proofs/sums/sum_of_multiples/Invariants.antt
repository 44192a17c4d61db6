use Rattle.whole_numbers.proofs.Common.{◌≡◌, ◌++◌, drop, sums, multiples}
use Rattle.null_space.proofs.sums.sum_of_multiples.Given as goal

abbrev pub invariant-loop-at : goal.invariant-loop-at
invariant-loop-at l =
    l.sum.items ++ sums (multiples l.a (drop l.at l.x)) (multiples l.b (drop l.at l.y)) ≡ sums
    (multiples l.a l.x) (multiples l.b l.y)
