use Rattle.whole_numbers.proofs.Common.{◌≡◌, drop}
use Rattle.checked_tableau.specs.Nodes.{all_zero}
use Rattle.pip_solver.proofs.parts.all_zero.Given as goal

abbrev pub invariant-loop-number : goal.invariant-loop-number
invariant-loop-number l = all_zero (drop l.number-index l.numbers) ≡ all_zero l.numbers
