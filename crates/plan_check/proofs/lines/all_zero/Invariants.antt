use Rattle.scop_syntax.proofs.Common.{◌≡◌, drop}
use Rattle.plan_check.specs.Derivations.{are_zero}
use Rattle.plan_check.proofs.lines.all_zero.Given as goal

abbrev pub invariant-loop-at : goal.invariant-loop-at
invariant-loop-at l = are_zero (drop l.at l.numbers) ≡ are_zero l.numbers
