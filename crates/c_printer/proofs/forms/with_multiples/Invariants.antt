-- The sums so far, and those of what is to come, are all of them.
use Rattle.scop_syntax.proofs.Common.{◌≡◌, ◌++◌, drop, sums, multiples}
use Rattle.c_printer.proofs.forms.with_multiples.Given as goal

abbrev pub invariant-loop-at : goal.invariant-loop-at
invariant-loop-at l = l.all.items ++ sums (drop l.at l.entries) (multiples l.factor (drop l.at l.others))
    ≡ sums l.entries (multiples l.factor l.others)
