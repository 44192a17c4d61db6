use Rattle.scop_syntax.proofs.Common.{◌≤◌, ◌^◌, All, take, unsigned_abs}
use Rattle.plain_scan.proofs.numbers.large_in.Given as goal

abbrev pub invariant-loop-number : goal.invariant-loop-number
invariant-loop-number l = All (λ z. unsigned_abs z ≤ 2 ^ 40) (take l.number-index l.number-items)
