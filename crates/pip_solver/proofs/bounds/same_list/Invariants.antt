use Rattle.whole_numbers.proofs.Common.{◌≡◌, drop}
use Rattle.checked_tableau.specs.Nodes.{same_list}
use Rattle.pip_solver.proofs.bounds.same_list.Given as goal

abbrev pub invariant-loop-at : goal.invariant-loop-at
invariant-loop-at l = same_list (drop l.at l.xs) (drop l.at l.ys) ≡ same_list l.xs l.ys
