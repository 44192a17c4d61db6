use Rattle.whole_numbers.proofs.Common.{◌≡◌, drop, pos, list_all, int_eq}
use Rattle.quast_trees.proofs.paths.are_zeros.Given as goal

abbrev pub invariant-loop-number : goal.invariant-loop-number
invariant-loop-number l =
    list_all (λ c. int_eq c (pos 0)) (drop l.number-index l.numbers) ≡ list_all (λ c. int_eq c (pos 0)) l.numbers
