use Rattle.scop_syntax.proofs.Common.{◌≡◌, drop}
use Rattle.plan_check.specs.Derivations.{are_multiples}
use Rattle.plan_check.proofs.lines.divides.Given as goal

abbrev pub invariant-loop-at : goal.invariant-loop-at
invariant-loop-at l = are_multiples l.divisor (drop l.at l.numbers) ≡ are_multiples l.divisor l.numbers
