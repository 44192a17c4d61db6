use Rattle.scop_syntax.proofs.Common.{◌≡◌, ◌++◌, drop, multiples}
use Rattle.scop_roles.proofs.forms.multiples.Given as goal

abbrev pub invariant-loop-number : goal.invariant-loop-number
invariant-loop-number l =
    l.products.items ++ multiples l.fn.factor (drop l.number-index l.numbers) ≡ multiples l.fn.factor l.numbers
