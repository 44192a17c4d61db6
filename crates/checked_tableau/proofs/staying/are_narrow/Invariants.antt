use Rattle.whole_numbers.proofs.Common.{All, FitsSigned, take, w64}
use Rattle.checked_tableau.proofs.staying.are_narrow.Given as goal

abbrev pub invariant-loop-at : goal.invariant-loop-at
invariant-loop-at l = All (FitsSigned w64) (take l.at l.row)
