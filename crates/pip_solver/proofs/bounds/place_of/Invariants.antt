use Rattle.whole_numbers.proofs.Common.{◌≡◌, drop}
use Rattle.checked_tableau.specs.Nodes.{place_of}
use Rattle.pip_solver.proofs.bounds.place_of.Given as goal

abbrev pub invariant-loop-bound : goal.invariant-loop-bound
invariant-loop-bound l = place_of l.form l.divisor (drop l.bound-index l.bounds) ≡ place_of l.form l.divisor l.bounds
