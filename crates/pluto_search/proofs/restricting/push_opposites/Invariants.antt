use Rattle.scop_syntax.proofs.Common.{◌≡◌, ◌++◌, drop, negsuc, multiples}
use Rattle.pluto_search.proofs.restricting.push_opposites.Given as goal

abbrev pub invariant-loop-at : goal.invariant-loop-at
invariant-loop-at l =
    l.out.items ++ multiples (negsuc 0) (drop l.at l.numbers) ≡ l.fn.out.items ++ multiples (negsuc 0) l.numbers
