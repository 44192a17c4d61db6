use Rattle.scop_syntax.proofs.Common.{arith, pos, ints}
use Rattle.text_callers.proofs.printed.halves_and_choices.Goals as goal

pub returns-clause-floor : goal.returns-clause-floor
returns-clause-floor c = λ n. c.the_functions_of_a_text_round_and_choose.ensures.floor n (pos 2) (omega (arith, ints))

pub returns-clause-ceiling : goal.returns-clause-ceiling
returns-clause-ceiling c = λ n.
    c.the_functions_of_a_text_round_and_choose.ensures.ceiling n (pos 2) (omega (arith, ints))

pub returns-clause-greater : goal.returns-clause-greater
returns-clause-greater c = λ a. c.the_functions_of_a_text_round_and_choose.ensures.greater a (pos 0)

pub returns-clause-less : goal.returns-clause-less
returns-clause-less c = λ a. c.the_functions_of_a_text_round_and_choose.ensures.less a (pos 0)
