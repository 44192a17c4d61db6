use Rattle.scop_syntax.proofs.Common.{◌≡◌, ◌++◌, drop, map, pos}
use Rattle.plan_check.proofs.laying.signed.Given as goal

abbrev pub invariant-loop-at : goal.invariant-loop-at
invariant-loop-at l = l.found.items ++ map (λ n. pos n) (drop l.at l.numbers) ≡ map (λ n. pos n) l.numbers
