use Rattle.whole_numbers.proofs.Common.{◌≡◌, ◌++◌, take, drop, map, remainder}
use Rattle.checked_tableau.proofs.cuts.leave_remainders.Given as goal

abbrev pub invariant-loop-at : goal.invariant-loop-at
invariant-loop-at l = l.numbers ≡ map (λ z. remainder z l.divisor) (take l.at l.fn.numbers) ++ drop l.at l.fn.numbers
