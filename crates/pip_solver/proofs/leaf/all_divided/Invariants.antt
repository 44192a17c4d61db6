use Rattle.whole_numbers.proofs.Common.{◌≡◌, drop}
use Rattle.checked_tableau.specs.Nodes.{all_divided}
use Rattle.pip_solver.proofs.leaf.all_divided.Given as goal

abbrev pub invariant-loop-number : goal.invariant-loop-number
invariant-loop-number l = all_divided l.divisor (drop l.number-index l.numbers) ≡ all_divided l.divisor l.numbers
