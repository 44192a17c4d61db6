use Rattle.scop_syntax.proofs.Common.{◌≡◌, ◌++◌, take}
use Rattle.iteration_domains.proofs.forms.push_numbers.Given as goal

abbrev pub invariant-loop-number : goal.invariant-loop-number
invariant-loop-number l = l.numbers.items ≡ l.fn.numbers.items ++ take l.number-index l.more
