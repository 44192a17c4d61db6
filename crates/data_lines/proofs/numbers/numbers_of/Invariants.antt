-- The numbers so far and those of the words to come are the numbers of all.
use Rattle.scop_syntax.proofs.Common.{◌≡◌, length}
use Rattle.data_lines.specs.Words.{words_of}
use Rattle.data_lines.specs.Numbers.{numbers_of}
use Rattle.data_lines.proofs.NumberLemmas.{with_numbers}
use Rattle.data_lines.proofs.numbers.numbers_of.Given as goal

abbrev pub invariant-loop-first : goal.invariant-loop-first
invariant-loop-first l = with_numbers l.numbers.items (numbers_of (words_of l.behind)) ≡ numbers_of (words_of l.list)

abbrev pub decreases-loop-first : goal.decreases-loop-first
decreases-loop-first l = length l.behind
