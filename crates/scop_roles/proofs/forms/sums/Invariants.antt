use Rattle.scop_syntax.proofs.Common.{◌≡◌, ◌++◌, drop, sums}
use Rattle.scop_roles.proofs.forms.sums.Given as goal

abbrev pub invariant-loop-at : goal.invariant-loop-at
invariant-loop-at l =
    l.totals.items ++ sums (drop l.at l.numbers) (drop l.at l.others) ≡ sums l.numbers l.others
