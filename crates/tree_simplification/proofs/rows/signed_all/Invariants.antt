use Rattle.tree_simplification.proofs.Common.{◌≡◌, ◌++◌, drop, multiples, sign_of}
use Rattle.tree_simplification.proofs.rows.signed_all.Given as goal

abbrev pub invariant-loop-number : goal.invariant-loop-number
invariant-loop-number l =
    l.out.items ++ multiples (sign_of l.turned) (drop l.number-index l.numbers) ≡ multiples (sign_of l.turned) l.numbers
