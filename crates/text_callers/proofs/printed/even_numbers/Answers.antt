use Rattle.scop_syntax.proofs.Common.{arith, pos, ints}
use Rattle.text_callers.proofs.printed.even_numbers.Goals as goal

pub returns-clause-multiple : goal.returns-clause-multiple
returns-clause-multiple c = λ form point.
    c.printed_divisions_are_those_of_the_tree.ensures.multiple form (pos 2) point (omega (arith, ints))

pub returns-clause-floor : goal.returns-clause-floor
returns-clause-floor c = c.printed_divisions_are_those_of_the_tree.ensures.floor

pub returns-clause-ceiling : goal.returns-clause-ceiling
returns-clause-ceiling c = c.printed_divisions_are_those_of_the_tree.ensures.ceiling
