use Rattle.whole_numbers.proofs.Common.{All, FitsSigned, take, w128}
use Rattle.wide_math.proofs.ranges.held.Given as goal

abbrev pub invariant-loop-at : goal.invariant-loop-at
invariant-loop-at l = All (FitsSigned w128) (take l.at l.numbers)
