use Rattle.whole_numbers.proofs.Common.{◌≡◌, take}
use Rattle.pip_solver.proofs.bounds.copied_bounds.Given as goal

abbrev pub invariant-loop-bound : goal.invariant-loop-bound
invariant-loop-bound l = l.all.items ≡ take l.bound-index l.bounds
