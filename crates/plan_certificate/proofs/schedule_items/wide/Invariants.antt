-- The numbers so far and those to come are all numbers.
use Rattle.scop_syntax.proofs.Common.{◌≡◌, ◌++◌, drop}
use Rattle.plan_certificate.proofs.schedule_items.wide.Given as goal

abbrev pub invariant-loop-at : goal.invariant-loop-at
invariant-loop-at l = l.found.items ++ drop l.at l.numbers ≡ l.numbers
