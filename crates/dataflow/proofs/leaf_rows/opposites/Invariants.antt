use Rattle.scop_syntax.proofs.Common.{◌≡◌, ◌++◌, drop, negsuc, multiples}
use Rattle.dataflow.proofs.leaf_rows.opposites.Given as goal

abbrev pub invariant-loop-number : goal.invariant-loop-number
invariant-loop-number l =
    l.all.items ++ multiples (negsuc 0) (drop l.number-index l.numbers) ≡ multiples (negsuc 0) l.numbers
